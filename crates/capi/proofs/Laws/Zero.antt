-- What a number in an answer says (01, "The numbers"): 0 that nothing was refused, and then the other numbers are those of what was taken;
-- any other the refusal, with its place. Assumes nothing.
use Prim.Native.Nat.{ℕ, ◌≤◌}
use native.Mathlib.Omega.{arith}
use mathlib.Core.List.{List}
use mathlib.Core.Logic.{◌⊎◌, inl, inr}
use mathlib.Core.Path.{◌≡◌, refl, sym, ap, ◌∙◌}
use lib.ListN.{length, take}
use Rattle.checker.specs.Answer.{Starts, of_replies, of_attacks, answer_of}
use Rattle.checker.proofs.Laws.Numbered.{check_numbered}
use Rattle.checker.proofs.Laws.ReadPassed.{passed_kind}
use Rattle.std.specs.Prelude.{Ok}
use Rattle.circuit.specs.Answer.{WrittenAs, outcome_of, count_of, buffer_after}
use Rattle.circuit.specs.Circuit.{Circuit, latch_count, uncontrollable_count, controllable_count}
use Rattle.circuit.specs.Outcome.{Outcome, taken, refused, ◌>>=◌}
use Rattle.file.specs.CircuitIn.{circuit_in}
use Rattle.file.proofs.Laws.Numbered.{file_numbered, writer_numbered}
use Rattle.game.specs.CircuitGame.{is_realizable}
use Rattle.printer.specs.FilePrinted.{file_printed}
use Rattle.printer.proofs.Laws.ReadsBack.{print_reads_back, counted_reads, count_refused_exactly}
use Rattle.records.specs.Record.{reply_kind, attack_kind, packed_kind}
use Rattle.step.specs.Step.{step}
use Rattle.text.specs.Printed.{printed}
use Rattle.writer.specs.Answer.{Verdict, certificate_for, verdict_for}
use Rattle.writer.specs.Certificate.{certificate_of}
use Rattle.writer.proofs.Laws.Passes.{Accepted}
use Rattle.writer.proofs.Laws.OwnCertificate.{Passing, told_passes, told_reads, verdict_refused_exactly}
use Rattle.capi.specs.Plain.{read_answer, step_answer, certify_answer, check_answer, print_answer}
use Rattle.capi.specs.Stepped.{file_stepped}
use Rattle.capi.proofs.Laws.Stored.{replies_told}
use Rattle.capi.specs.declared.CertifyAnswer.{CertifyAnswer}
use Rattle.capi.specs.declared.CheckAnswer.{CheckAnswer}
use Rattle.capi.specs.declared.PrintAnswer.{PrintAnswer}
use Rattle.capi.specs.declared.ReadAnswer.{ReadAnswer}
use Rattle.capi.specs.declared.StepAnswer.{StepAnswer}

module _ (file : List ℕ) (a : ReadAnswer) (is : a ≡ read_answer (circuit_in file)) where
  pub zero_read :
      a.number ≡ 0
      → (c : Circuit) × (circuit_in file ≡ taken c) × (a.latches ≡ latch_count c) × (a.readings ≡ uncontrollable_count c)
      × (a.controls ≡ controllable_count c)
  unfolding read_answer
  zero_read zero = by (circuit_in file) refl is
    where
      by :
          (o : Outcome Circuit) → circuit_in file ≡ o → a ≡ read_answer o
          → (c : Circuit) × (circuit_in file ≡ taken c) × (a.latches ≡ latch_count c) × (a.readings ≡ uncontrollable_count c)
          × (a.controls ≡ controllable_count c)
      by (taken c) e f = (c, e, (λ x. (f x).latches), (λ x. (f x).readings), (λ x. (f x).controls))
      by (refused n p) e f = let q : a.number ≡ n = λ x. (f x).number in absurd (omega (arith, q, zero, (file_numbered file n p e).0))

  pub number_read : 1 ≤ a.number → circuit_in file ≡ refused a.number a.place
  unfolding read_answer
  number_read more = by (circuit_in file) refl is
    where
      by : (o : Outcome Circuit) → circuit_in file ≡ o → a ≡ read_answer o → circuit_in file ≡ refused a.number a.place
      by (taken c) e f = let q : a.number ≡ 0 = λ x. (f x).number in absurd (omega (arith, q, more))
      by (refused n p) e f = e ∙ sym (λ x. refused (f x).number (f x).place)

module _ (file : List ℕ) (s r k : ℕ) (a : StepAnswer) (is : a ≡ step_answer (file_stepped file s r k)) where
  pub zero_stepped : a.number ≡ 0 → (c : Circuit) × (circuit_in file ≡ taken c) × (a.error ≡ (step c s r k).error) × (a.next ≡ (step c s r k).next)
  unfolding step_answer file_stepped
  zero_stepped zero = by (circuit_in file) refl is
    where
      by :
          (o : Outcome Circuit) → circuit_in file ≡ o → a ≡ step_answer (o >>= λ c. taken (step c s r k))
          → (c : Circuit) × (circuit_in file ≡ taken c) × (a.error ≡ (step c s r k).error) × (a.next ≡ (step c s r k).next)
      by (taken c) e f = (c, e, (λ x. (f x).error), (λ x. (f x).next))
      by (refused n p) e f = let q : a.number ≡ n = λ x. (f x).number in absurd (omega (arith, q, zero, (file_numbered file n p e).0))

  pub number_stepped : 1 ≤ a.number → circuit_in file ≡ refused a.number a.place
  unfolding step_answer file_stepped
  number_stepped more = by (circuit_in file) refl is
    where
      by : (o : Outcome Circuit) → circuit_in file ≡ o → a ≡ step_answer (o >>= λ c. taken (step c s r k)) → circuit_in file ≡ refused a.number a.place
      by (taken c) e f = let q : a.number ≡ 0 = λ x. (f x).number in absurd (omega (arith, q, more))
      by (refused n p) e f = e ∙ sym (λ x. refused (f x).number (f x).place)

module _ (kind : ℕ) (accepted : Accepted kind) (file before : List ℕ) (a : CertifyAnswer) where
  abbrev tells : Outcome Verdict
  tells = verdict_for kind file (circuit_in file) (length before)

  -- what is told of a certificate that was written
  abbrev Stands : (after : List ℕ) → Type 0
  Stands after =
      (c : Circuit) × (starts : Starts) × (circuit_in file ≡ taken c) × (a.realizable ≡ is_realizable c)
      × (take a.bytes after ≡ certificate_of kind file c) × (answer_of file (take a.bytes after) ≡ taken starts)

  module _ (is : a ≡ certify_answer tells) where
    pub zero_certified :
        (after : List ℕ) → after ≡ buffer_after (certificate_for kind file (circuit_in file) (length before)) before → a.number ≡ 0 → Stands after
    unfolding certify_answer
    zero_certified after written zero = by tells refl is
      where
        by : (o : Outcome Verdict) → tells ≡ o → a ≡ certify_answer o → Stands after
        by (taken v) e f =
            let (c, reads) = told_reads kind file (length before) v e in
            let p : Passing kind file c after v = told_passes kind accepted file c before after v reads e written in
            let verdict : a.realizable ≡ v.realizable = λ x. (f x).realizable in
            let counted : a.bytes ≡ v.count = λ x. (f x).bytes in
            let stands = ap (λ (n : ℕ). take n after) counted ∙ p.stands in
            (c, p.starts, reads, verdict ∙ p.right, stands, ap (λ (n : ℕ). answer_of file (take n after)) counted ∙ p.passes)
        by (refused n p) e f =
            let q : a.number ≡ n = λ x. (f x).number in
            let row = (verdict_refused_exactly kind file (length before) n p).0 e in
            absurd (omega (arith, q, zero, (writer_numbered file (certificate_of kind file) (length before) n p row).0))

    pub number-certified : 1 ≤ a.number → tells ≡ refused a.number a.place
    unfolding certify_answer
    number-certified more = by tells refl is
      where
        by : (o : Outcome Verdict) → tells ≡ o → a ≡ certify_answer o → tells ≡ refused a.number a.place
        by (taken v) e f = let q : a.number ≡ 0 = λ x. (f x).number in absurd (omega (arith, q, more))
        by (refused n p) e f = e ∙ sym (λ x. refused (f x).number (f x).place)

module _ (file certificate : List ℕ) (a : CheckAnswer) where
  -- the starts that the answer tells
  abbrev attacks_told : Starts
  attacks_told = of_attacks a.table a.latches a.readings

  abbrev Either : Type 0
  Either = (a.kind ≡ reply_kind) ⊎ ((a.kind ≡ packed_kind) ⊎ (a.kind ≡ attack_kind))

  not_zero : (n p : ℕ) → answer_of file certificate ≡ refused n p → a.number ≡ n → a.number ≡ 0 → ⊥
  not_zero n p e q zero = absurd (omega (arith, q, zero, (check_numbered file certificate n p e).0))

  other : (kind : ℕ) → kind ≡ attack_kind → (kind ≡ reply_kind) ⊎ (kind ≡ packed_kind) → ⊥
  other kind e (inl f) = absurd (omega (arith, e, f))
  other kind e (inr f) = absurd (omega (arith, e, f))

  module _ (is : a ≡ check_answer (answer_of file certificate)) where
    pub zero_replies : a.number ≡ 0 → (a.kind ≡ attack_kind → ⊥) → answer_of file certificate ≡ taken (replies_told a)
    unfolding check_answer
    zero_replies zero kind = by (answer_of file certificate) refl is
      where
        by : (o : Outcome Starts) → answer_of file certificate ≡ o → a ≡ check_answer o → answer_of file certificate ≡ taken (replies_told a)
        by (taken (of_replies region table sort L U C)) e f =
            e ∙ sym (λ x. taken (of_replies (f x).region (f x).table (f x).kind (f x).latches (f x).readings (f x).controls))
        by (taken (of_attacks table L U)) e f = absurd (kind (λ x. (f x).kind))
        by (refused n p) e f = absurd (not_zero n p e (λ x. (f x).number) zero)

    pub zero_attacks : a.number ≡ 0 → a.kind ≡ attack_kind → answer_of file certificate ≡ taken attacks_told
    unfolding check_answer
    zero_attacks zero kind = by (answer_of file certificate) refl is
      where
        by : (o : Outcome Starts) → answer_of file certificate ≡ o → a ≡ check_answer o → answer_of file certificate ≡ taken attacks_told
        by (taken (of_replies region table sort L U C)) e f =
            let q : a.kind ≡ sort = λ x. (f x).kind in absurd (other sort (sym q ∙ kind) (passed_kind file certificate region table sort L U C e))
        by (taken (of_attacks table L U)) e f = e ∙ sym (λ x. taken (of_attacks (f x).table (f x).latches (f x).readings))
        by (refused n p) e f = absurd (not_zero n p e (λ x. (f x).number) zero)

    pub zero_kind : a.number ≡ 0 → Either
    unfolding check_answer
    zero_kind zero = by (answer_of file certificate) refl is
      where
        told : (sort : ℕ) → a.kind ≡ sort → (sort ≡ reply_kind) ⊎ (sort ≡ packed_kind) → Either
        told sort q (inl e) = inl (q ∙ e)
        told sort q (inr e) = inr (inl (q ∙ e))

        by : (o : Outcome Starts) → answer_of file certificate ≡ o → a ≡ check_answer o → Either
        by (taken (of_replies region table sort L U C)) e f = told sort (λ x. (f x).kind) (passed_kind file certificate region table sort L U C e)
        by (taken (of_attacks table L U)) e f = inr (inr (λ x. (f x).kind))
        by (refused n p) e f = absurd (not_zero n p e (λ x. (f x).number) zero)

    pub number_checked : 1 ≤ a.number → answer_of file certificate ≡ refused a.number a.place
    unfolding check_answer
    number_checked more = by (answer_of file certificate) refl is
      where
        by : (o : Outcome Starts) → answer_of file certificate ≡ o → a ≡ check_answer o → answer_of file certificate ≡ refused a.number a.place
        by (taken (of_replies region table sort L U C)) e f = let q : a.number ≡ 0 = λ x. (f x).number in absurd (omega (arith, q, more))
        by (taken (of_attacks table L U)) e f = let q : a.number ≡ 0 = λ x. (f x).number in absurd (omega (arith, q, more))
        by (refused n p) e f = e ∙ sym (λ x. refused (f x).number (f x).place)

module _ (file before : List ℕ) (a : PrintAnswer) (is : a ≡ print_answer (count_of (file_printed file (length before)))) where
  pub zero_printed :
      (after : List ℕ) → after ≡ buffer_after (file_printed file (length before)) before → a.number ≡ 0
      → (c : Circuit) × (circuit_in file ≡ taken c) × (circuit_in (take a.bytes after) ≡ taken c)
  unfolding print_answer outcome_of
  zero_printed after written zero = by (count_of (file_printed file (length before))) refl is
    where
      by :
          (o : Outcome ℕ) → count_of (file_printed file (length before)) ≡ o → a ≡ print_answer o
          → (c : Circuit) × (circuit_in file ≡ taken c) × (circuit_in (take a.bytes after) ≡ taken c)
      by (taken n) e f =
          let (c, reads) = counted_reads file (length before) n e in
          let w : WrittenAs (file_printed file (length before)) before after (Ok n) = record { answer = sym e; bytes = written } in
          let counted : a.bytes ≡ n = λ x. (f x).bytes in
          (c, reads, ap (λ (m : ℕ). circuit_in (take m after)) counted ∙ print_reads_back file c reads before after (Ok n) n w refl)
      by (refused n p) e f =
          let q : a.number ≡ n = λ x. (f x).number in
          let row = (count_refused_exactly file (length before) n p).0 e in
          absurd (omega (arith, q, zero, (writer_numbered file printed (length before) n p row).0))

  pub number-printed : 1 ≤ a.number → count_of (file_printed file (length before)) ≡ refused a.number a.place
  unfolding print_answer
  number-printed more = by (count_of (file_printed file (length before))) refl is
    where
      by :
          (o : Outcome ℕ) → count_of (file_printed file (length before)) ≡ o → a ≡ print_answer o
          → count_of (file_printed file (length before)) ≡ refused a.number a.place
      by (taken n) e f = let q : a.number ≡ 0 = λ x. (f x).number in absurd (omega (arith, q, more))
      by (refused n p) e f = e ∙ sym (λ x. refused (f x).number (f x).place)
