-- The truths in all lanes decide every bit of lent words. Assumes nothing.
use Prim.Native.Nat.{ℕ, zero, suc, ◌^◌, ◌<◌}
use native.Mathlib.Omega.{arith}
use mathlib.Core.Bool.{true≢false}
use mathlib.Core.List.{List}
use mathlib.Core.Path.{◌≡◌, refl, sym, ap, ◌∙◌}
use lib.Dec.{eqb}
use lib.ListN.{length, get_or}
use lib.Seq.{ext_get_or}
use Rattle.std.specs.Int.{bit_at}
use Rattle.std.proofs.lemmas.Nat.Bits.{bit_at-lt, same_from_bits_below}
use Rattle.blocks.specs.Lane.{width, lane, Truths, lits_in}
use Rattle.blocks.proofs.Laws.Lane.{lane_is}

same_bit : (x y : ℕ) → x < 2 → y < 2 → eqb x 1 ≡ eqb y 1 → x ≡ y
same_bit zero zero h l e = refl
same_bit zero (suc zero) h l e = absurd (true≢false (sym e))
same_bit (suc zero) zero h l e = absurd (true≢false e)
same_bit (suc zero) (suc zero) h l e = refl
same_bit (suc (suc x)) y h l e = absurd (omega arith)
same_bit zero (suc (suc y)) h l e = absurd (omega arith)
same_bit (suc zero) (suc (suc y)) h l e = absurd (omega arith)

word_decided : (a b : ℕ) → a < 2 ^ width → b < 2 ^ width → ((j : ℕ) → j < width → lane a j ≡ lane b j) → a ≡ b
word_decided a b h l e =
    same_from_bits_below width a b h l
    (λ j m. same_bit (bit_at a j) (bit_at b j) (bit_at-lt a j) (bit_at-lt b j) (lane_is a j ∙ e j m ∙ sym (lane_is b j)))

pub words_decided : (a b : List ℕ) → length a ≡ length b → ((k : ℕ) → get_or a k 0 < 2 ^ width) → ((k : ℕ) → get_or b k 0 < 2 ^ width)
    → ((j : ℕ) → j < width → lits_in a j ≡ lits_in b j) → a ≡ b
unfolding lits_in
words_decided a b long h l e = ext_get_or 0 a b long (λ k m. word_decided (get_or a k 0) (get_or b k 0) (h k) (l k) (λ j w. ap (λ (v : Truths). v k) (e j w)))
