-- A kind is known by its number, and so is how a reply record stores its replies. Assumes nothing.
use Rattle.std.proofs.Common.{◌≡◌, ℕ, Some, None, cond, eqb, arith, ap, sym, ◌∙◌, refl, true, false}
use Rattle.std.proofs.lemmas.Bool.Decides.{nat_tests}
use Rattle.std.specs.Result.{result_ok}
use Rattle.below.specs.Among.{among, member}
use Rattle.records.specs.Kinds.{kind_of, kind_number, reply_kind_of, reply_kind_number, stored_as}
use Rattle.records.specs.Record.{circuit_kind, region_kind, reply_kind, attack_kind}
use Rattle.records.specs.Tables.{accepted_kinds}
use Rattle.records.specs.declared.kinds.Kind.{Kind}
use Rattle.records.specs.declared.kinds.Kind.TheVariants.{Circuit, Region, Replies, Attacks, Packed as PackedReplies}
use Rattle.records.specs.declared.kinds.ReplyKind.{ReplyKind}
use Rattle.records.specs.declared.kinds.ReplyKind.TheVariants.{Bytes, Packed}

kind_at : ℕ → Kind
kind_at n =
    cond (eqb n circuit_kind) Circuit
    (cond (eqb n region_kind) Region (cond (eqb n reply_kind) Replies (cond (eqb n attack_kind) Attacks PackedReplies)))

known : (k : Kind) → kind_at (kind_number k) ≡ k
unfolding kind_at
known Circuit = refl
known Region = refl
known Replies = refl
known Attacks = refl
known PackedReplies = refl

pub same_kind : (j k : Kind) → kind_number j ≡ kind_number k → j ≡ k
same_kind j k e = sym (known j) ∙ ap kind_at e ∙ known k

pub kind_known : (n : ℕ) (k : Kind) → Some k ≡ result_ok (kind_of n) → n ≡ kind_number k
kind_known n Circuit e = grind (arith, nat_tests)
kind_known n Region e = grind (arith, nat_tests)
kind_known n Replies e = grind (arith, nat_tests)
kind_known n Attacks e = grind (arith, nat_tests)
kind_known n PackedReplies e = grind (arith, nat_tests)

pub kind_unknown : (n : ℕ) → None ≡ result_ok (kind_of n) → (k : Kind) → n ≡ kind_number k → ⊥
kind_unknown n e Circuit h = grind (arith, nat_tests)
kind_unknown n e Region h = grind (arith, nat_tests)
kind_unknown n e Replies h = grind (arith, nat_tests)
kind_unknown n e Attacks h = grind (arith, nat_tests)
kind_unknown n e PackedReplies h = grind (arith, nat_tests)

pub another_kind : (n : ℕ) (j k : Kind) → Some j ≡ result_ok (kind_of n) → (j ≡ k → ⊥) → n ≡ kind_number k → ⊥
another_kind n j k e d h = d (same_kind j k (sym (kind_known n j e) ∙ h))

pub reply_kind_known : (n : ℕ) (k : ReplyKind) → Some k ≡ result_ok (reply_kind_of n) → n ≡ reply_kind_number k
reply_kind_known n Bytes e = grind (arith, nat_tests)
reply_kind_known n Packed e = grind (arith, nat_tests)

pub reply_kind_unknown : (n : ℕ) → None ≡ result_ok (reply_kind_of n) → member n accepted_kinds ≡ false
unfolding member among
reply_kind_unknown n e = grind (arith, nat_tests)

-- the kinds of reply record that are taken
pub reply_kind_taken : (k : ReplyKind) → member (reply_kind_number k) accepted_kinds ≡ true
unfolding member among
reply_kind_taken Bytes = refl
reply_kind_taken Packed = refl

pub stored_as_number : (k : ReplyKind) → stored_as (reply_kind_number k) ≡ k
stored_as_number Bytes = refl
stored_as_number Packed = refl

pub number_of_stored : (n : ℕ) → member n accepted_kinds ≡ true → reply_kind_number (stored_as n) ≡ n
unfolding member among
number_of_stored n e = grind (arith, nat_tests)
