-- Bytes laid into a buffer one by one from a place on, as f gives them. Assumes nothing.
use Prim.Native.Nat.{ℕ, zero, suc, ◌+◌, ◌*◌, ◌/◌, ◌<◌, ◌≤◌}
use native.Mathlib.Nat.{mul-zero, zero-lt-suc}
use native.Mathlib.Numerals.{add-one}
use native.Mathlib.Omega.{arith}
use mathlib.Core.List.{List, [], ◌∷◌}
use mathlib.Core.Path.{◌≡◌, refl, sym, ap, ◌∙◌}
use lib.ListN.{length, set}
use lib.Seq.{sets, length-sets}
use Rattle.below.specs.Table.{table}
use Rattle.below.proofs.Laws.Table.{length_table}
use Rattle.bits.proofs.Laws.Wrote.{sets_append}

-- the first j of them
pub record Laid (f : ℕ → ℕ) (n : ℕ) (before : List ℕ) (at j : ℕ) (after : List ℕ) : Type 0 where
  pub within : j ≤ n
  pub long : length after ≡ length before
  pub is : after ≡ sets before at (table f j)

module _ (f : ℕ → ℕ) (n : ℕ) (before : List ℕ) (at : ℕ) where
  pub laid_start : Laid f n before at 0 before
  unfolding table
  laid_start = record { within = omega arith; long = refl; is = refl }

  pub laid_next : (j byte : ℕ) (after : List ℕ) → Laid f n before at j after → j < n → byte ≡ f j → Laid f n before at (j + 1) (set after (at + j) byte)
  unfolding table
  laid_next j byte after so h e = record { within = omega arith; long = ap length more ∙ length-sets before at (table f (j + 1)); is = more }
    where
      more : set after (at + j) byte ≡ sets before at (table f (j + 1))
      more =
          let long : j ≡ length (table f j) = sym (length_table f j) in
          (λ i. set (so.is i) (at + long i) (e i))
          ∙ sym (sets_append before at (table f j) (f j ∷ []))
          ∙ ap (λ (m : ℕ). sets before at (table f m)) (sym (add-one j))

  pub laid_all : (j : ℕ) (after : List ℕ) → Laid f n before at j after → n ≤ j → after ≡ sets before at (table f n)
  laid_all j after so h = so.is ∙ ap (λ (m : ℕ). sets before at (table f m)) (omega (arith, so.within))

-- numbers that take bytes have bits
pub wide : (n w many j : ℕ) → many ≡ (n * w + 7) / 8 → j < many → 0 < w
wide n zero many j e h = absurd (omega (arith, mul-zero n))
wide n (suc w) many j e h = zero-lt-suc w
