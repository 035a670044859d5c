-- What holds of a bit of a list of bytes. Assumes nothing.
use Prim.Native.Nat.{ℕ, ◌/◌, ◌%◌, ◌<◌, ◌≤◌}
use native.Mathlib.Omega.{arith}
use native.Mathlib.Decide.{dec_lt, ℕ_discrete}
use mathlib.Core.Bool.{Bool}
use mathlib.Core.List.{List}
use mathlib.Core.Logic.{◌≢◌}
use mathlib.Core.Path.{◌≡◌, ap}
use lib.ListN.{length, get_or, set, length-set}
use lib.Seq.{get_or-set_same, get_or-set_other, set_out}
use Rattle.bits.specs.Bit.{bit, one_if, with_bit}
use Rattle.bits.specs.ByteBit.{byte_bit, with_byte_bit}
use Rattle.bits.proofs.Laws.Bit.{bit_with_same, bit_with_other, bit_below}

pub byte_bit_below : (bytes : List ℕ) (i : ℕ) → byte_bit bytes i < 2
unfolding byte_bit
byte_bit_below bytes i = bit_below (get_or bytes (i / 8) 0) (i % 8)

pub length-with_byte_bit : (bytes : List ℕ) (i : ℕ) (b : Bool) → length (with_byte_bit bytes i b) ≡ length bytes
unfolding with_byte_bit
length-with_byte_bit bytes i b = length-set bytes (i / 8) _

pub byte_bit_with_same : (bytes : List ℕ) (i : ℕ) (b : Bool) → i / 8 < length bytes → byte_bit (with_byte_bit bytes i b) i ≡ one_if b
unfolding byte_bit with_byte_bit
byte_bit_with_same bytes i b h =
    let byte = get_or bytes (i / 8) 0 in
    rw (get_or-set_same bytes (i / 8) (with_bit byte (i % 8) b) 0 h) (bit_with_same byte (i % 8) b)

pub byte_bit_with_other : (bytes : List ℕ) (i j : ℕ) (b : Bool) → j ≢ i → byte_bit (with_byte_bit bytes i b) j ≡ byte_bit bytes j
unfolding byte_bit with_byte_bit
byte_bit_with_other bytes i j b h = elim (ℕ_discrete (j / 8) (i / 8)) [ yes e ↦ there e | no d ↦ ap bit_j (get_or-set_other bytes (i / 8) (j / 8) new 0 d) ]
  where
    new : ℕ
    new = with_bit (get_or bytes (i / 8) 0) (i % 8) b

    bit_j : ℕ → ℕ
    bit_j byte = bit byte (j % 8)

    inside : j / 8 ≡ i / 8 → i / 8 < length bytes → bit_j (get_or (set bytes (i / 8) new) (j / 8) 0) ≡ bit_j (get_or bytes (j / 8) 0)
    inside e l =
        rw (e, get_or-set_same bytes (i / 8) new 0 l) (bit_with_other (get_or bytes (i / 8) 0) (i % 8) (j % 8) b (λ m. h (omega arith)))

    stays : length bytes ≤ i / 8 → bit_j (get_or (set bytes (i / 8) new) (j / 8) 0) ≡ bit_j (get_or bytes (j / 8) 0)
    stays l = ap (λ (bs : List ℕ). bit_j (get_or bs (j / 8) 0)) (set_out bytes (i / 8) new l)

    there : j / 8 ≡ i / 8 → bit_j (get_or (set bytes (i / 8) new) (j / 8) 0) ≡ bit_j (get_or bytes (j / 8) 0)
    there e = elim (dec_lt (i / 8) (length bytes)) [ yes l ↦ inside e l | no l ↦ stays (omega arith) ]

pub ruleset past = (set_out)
