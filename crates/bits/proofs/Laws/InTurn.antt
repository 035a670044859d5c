-- Texts one behind the other are written one by one. Assumes nothing.
use Prim.Native.Nat.{ℕ, zero, suc, ◌+◌, ◌<◌}
use native.Mathlib.Omega.{arith}
use native.Mathlib.Numerals.{add-one}
use mathlib.Core.List.{List, [], ◌++◌}
use mathlib.Core.Path.{◌≡◌, refl, ap₂}
use Rattle.bits.specs.InTurn.{in_turn}
use Rattle.bits.specs.Wrote.{Wrote}
use Rattle.bits.proofs.Laws.Wrote.{wrote_nothing, wrote_both}

pub in_turn_none : (f : ℕ → List ℕ) → in_turn f 0 ≡ []
unfolding in_turn
in_turn_none f = refl

pub in_turn_more : (f : ℕ → List ℕ) (n : ℕ) → in_turn f (suc n) ≡ in_turn f n ++ f n
unfolding in_turn
in_turn_more f n = refl

pub in_turn_same : (f g : ℕ → List ℕ) (n : ℕ) → ((i : ℕ) → i < n → f i ≡ g i) → in_turn f n ≡ in_turn g n
unfolding in_turn
in_turn_same f g zero e = refl
in_turn_same f g (suc n) e = ap₂ {C = List ℕ} (λ xs ys. xs ++ ys) (in_turn_same f g n (λ i h. e i (omega arith))) (e n (omega arith))

-- a loop that writes them: before the first, and after one more
pub wrote_none : (f : ℕ → List ℕ) (at : ℕ) (buffer : List ℕ) → Wrote (in_turn f 0) at buffer buffer at
unfolding in_turn
wrote_none f at buffer = wrote_nothing at buffer

pub wrote_turn : (f : ℕ → List ℕ) (i : ℕ) {at mid next : ℕ} {before between after : List ℕ}
    → Wrote (in_turn f i) at before between mid → Wrote (f i) mid between after next → Wrote (in_turn f (i + 1)) at before after next
unfolding in_turn
wrote_turn f i w v = rw add-one (wrote_both w v)
