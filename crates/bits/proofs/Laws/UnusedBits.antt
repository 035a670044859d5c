-- A search through the bits of a list of bytes from bit n on, which are unused. Assumes nothing.
use Prim.Native.Nat.{ℕ, ◌*◌, ◌<◌, ◌≤◌}
use native.Mathlib.Decide.{dec_lt}
use native.Mathlib.Omega.{arith}
use mathlib.Core.Bool.{Bool, false, ◌&&◌}
use mathlib.Core.List.{List}
use mathlib.Core.Path.{◌≡◌, sym, ap, ap₂}
use borrow.Author.Tests.{le-leb, lt-leb}
use lib.Dec.{eqb, leb}
use lib.ListN.{length}
use Rattle.below.proofs.Laws.Least.{none_any}
use Rattle.bits.specs.BitBytes.{unused_bit}
use Rattle.bits.specs.ByteBit.{byte_bit}

-- none of the unused bits before i is 1
pub record Unused (bytes : List ℕ) (n i : ℕ) : Type 0 where
  pub from : n ≤ i
  pub none : (j : ℕ) → n ≤ j → j < i → eqb (byte_bit bytes j) 1 ≡ false

module _ (bytes : List ℕ) (n i : ℕ) where
  pub unused_start : i ≡ n → Unused bytes n i
  unused_start e = record { from = omega arith; none = λ j h l. absurd (omega arith) }

  pub unused_end : Unused bytes n i → 8 * length bytes ≤ i → false ≡ unused_bit bytes n
  unfolding unused_bit
  unused_end w h = sym (none_any (λ j. leb n j && eqb (byte_bit bytes j) 1) (8 * length bytes) each)
    where
      used : (j : ℕ) → j < n → (leb n j && eqb (byte_bit bytes j) 1) ≡ false
      used j a = ap (λ (b : Bool). b && eqb (byte_bit bytes j) 1) (lt-leb n j a)

      past : (j : ℕ) → j < 8 * length bytes → n ≤ j → (leb n j && eqb (byte_bit bytes j) 1) ≡ false
      past j l a = ap₂ (λ (b d : Bool). b && d) (le-leb n j a) (w.none j a (omega arith))

      each : (j : ℕ) → j < 8 * length bytes → (leb n j && eqb (byte_bit bytes j) 1) ≡ false
      each j l = elim (dec_lt j n) [ yes a ↦ used j a | no a ↦ past j l (omega arith) ]
