-- The replies that are read by what a pass answers are those of the table, of either kind (01, "The certificate"; 02, T-07). Assumes nothing.
use Prim.Native.Nat.{ℕ, min}
use native.Mathlib.Omega.{arith}
use mathlib.Core.List.{List}
use mathlib.Core.Logic.{◌⊎◌, inl, inr}
use mathlib.Core.Path.{◌≡◌, sym, ◌∙◌}
use borrow.Author.Tests.{eq-eqb, ne_eqb}
use lib.ListN.{drop}
use Rattle.checker.specs.Answer.{Starts, of_replies, answer_of}
use Rattle.checker.proofs.Laws.ReadPassed.{passed_reads, passed_kind, bytes_read, packed_read}
use Rattle.circuit.specs.Outcome.{taken}
use Rattle.records.specs.PackedReplies.{packed_reply}
use Rattle.records.specs.Record.{reply_kind, packed_kind}
use Rattle.records.specs.ReplyBytes.{byte_reply}
use Rattle.records.specs.ReplyTable.{stored_reply}
use Rattle.capi.specs.Stored.{stored_of}
use Rattle.capi.specs.declared.CheckAnswer.{CheckAnswer}

module _ (a : CheckAnswer) where
  -- by the kind, as code goes
  module _ (table : List ℕ) (s r : ℕ) where
    by_packed :
        a.kind ≡ packed_kind
        → packed_reply table (min a.latches 10) (min a.readings 5) (min a.controls 8) s r ≡ stored_of a table s r
    unfolding stored_of
    by_packed e = rw (eq-eqb a.kind packed_kind e)

    by_bytes : (a.kind ≡ packed_kind → ⊥) → byte_reply table a.latches a.readings s r ≡ stored_of a table s r
    unfolding stored_of
    by_bytes d = rw (ne_eqb a.kind packed_kind d)

  -- the starts that the answer of a reply certificate tells
  abbrev pub replies_told : Starts
  replies_told = of_replies a.region a.table a.kind a.latches a.readings a.controls

  pub stored_as_read :
      (file certificate : List ℕ) (s r : ℕ) → answer_of file certificate ≡ taken replies_told
      → stored_of a (drop a.table certificate) s r
      ≡ stored_reply a.kind (drop a.table certificate) a.latches a.readings a.controls s r
  stored_as_read file certificate s r pass = by (passed_kind file certificate _ _ _ _ _ _ pass)
    where
      by :
          (a.kind ≡ reply_kind) ⊎ (a.kind ≡ packed_kind)
          → stored_of a (drop a.table certificate) s r
          ≡ stored_reply a.kind (drop a.table certificate) a.latches a.readings a.controls s r
      by (inl e) =
          let (c, reads) = passed_reads file certificate replies_told pass in
          sym (by_bytes (drop a.table certificate) s r (λ p. let z : reply_kind ≡ packed_kind = sym e ∙ p in omega (arith, z)))
          ∙ sym (bytes_read file certificate c reads _ _ _ _ _ _ pass e s r)
      by (inr e) =
          let (c, reads) = passed_reads file certificate replies_told pass in
          sym (by_packed (drop a.table certificate) s r e) ∙ sym (packed_read file certificate c reads _ _ _ _ _ _ pass e s r)
