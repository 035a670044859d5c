-- What holds of the valuation that bytes hold: none where each is 0, and a bit that is put. Assumes nothing.
use Prim.Native.Nat.{ℕ, zero, suc, ◌*◌, ◌/◌, ◌%◌, ◌<◌}
use native.Mathlib.Omega.{arith}
use native.Mathlib.Decide.{dec_lt, ℕ_discrete}
use mathlib.Core.Bool.{Bool, true, false, cond}
use mathlib.Core.List.{List}
use mathlib.Core.Logic.{◌≢◌}
use mathlib.Core.Path.{◌≡◌, refl, fun_ext}
use lib.Dec.{eqb}
use lib.ListN.{length, get_or}
use lib.Pow.{pow_pos}
use borrow.Author.Tests.{eq-eqb, ne_eqb}
use Rattle.std.specs.Int.{from_bool}
use Rattle.below.specs.Table.{table}
use Rattle.below.proofs.Laws.Table.{get_or_table, get_or_table_past}
use Rattle.bits.specs.Bit.{odd, one_if}
use Rattle.bits.specs.ByteBit.{byte_bit, with_byte_bit}
use Rattle.bits.proofs.Laws.Bit.{bit_high, is_one, one_if_below}
use Rattle.bits.proofs.Laws.ByteBit.{byte_bit_with_same, byte_bit_with_other}
use Rattle.circuit.specs.Limits.{base}
use Rattle.circuit.specs.Literal.{variable}
use Rattle.circuit.specs.Stored.{literal_of}
use Rattle.circuit.proofs.Laws.StoredLiteral.{variable_within}
use Rattle.step.specs.Truths.{truths}
use Rattle.step.specs.Value.{put}

-- bytes of which none has a bit hold no truth
pub none_true : (n : ℕ) (bytes : List ℕ) → bytes ≡ table (λ i. 0) n → truths bytes ≡ (λ v. false)
unfolding truths byte_bit
none_true n bytes e = fun_ext (λ v. rw (e, zero_at (v / 8), bit_high 0 (v % 8) (pow_pos (v % 8))))
  where
    zero_at : (i : ℕ) → get_or {A = ℕ} (table (λ i. 0) n) i 0 ≡ 0
    zero_at i = elim (dec_lt i n) [ yes h ↦ get_or_table (λ i. 0) n i 0 h | no h ↦ get_or_table_past (λ i. 0) n i 0 (omega arith) ]

-- a truth as the number that a conversion gives
pub from_bool-is : (b : Bool) → from_bool b ≡ one_if b
unfolding one_if
from_bool-is true = refl
from_bool-is false = refl

-- the lowest bit as a truth and back
pub one_if-odd : (n : ℕ) → one_if (odd n) ≡ n % 2
unfolding odd one_if
one_if-odd n = by (n % 2) (omega arith)
  where
    by : (m : ℕ) → m < 2 → cond (eqb m 1) 1 0 ≡ m
    by zero h = refl
    by (suc zero) h = refl
    by (suc (suc m)) h = absurd (omega arith)

pub one_if-bit : (b : Bool) → one_if b < 2
one_if-bit = one_if_below

-- a bit put at a variable puts its truth there
pub put-bit : (values : List ℕ) (v : ℕ) (b : Bool) → v < 8 * length values → truths (with_byte_bit values v b) ≡ put v b (truths values)
unfolding truths put
put-bit values v b h = fun_ext (λ w. elim (ℕ_discrete w v) [ yes e ↦ here w e | no d ↦ there w d ])
  where
    here : (w : ℕ) → w ≡ v → eqb (byte_bit (with_byte_bit values v b) w) 1 ≡ cond (eqb w v) b (eqb (byte_bit values w) 1)
    here w e = rw (e, byte_bit_with_same values v b (omega arith), eq-eqb v v refl) (is_one b)

    there : (w : ℕ) → w ≢ v → eqb (byte_bit (with_byte_bit values v b) w) 1 ≡ cond (eqb w v) b (eqb (byte_bit values w) 1)
    there w d = rw (byte_bit_with_other values v w b d, ne_eqb w v d)

-- the same at the variable of a stored literal, which is one of a circuit's
pub bit_put : (values : List ℕ) (l : ℕ) (b : Bool) → base.variable < 8 * length values
    → truths (with_byte_bit values (literal_of l / 2) b) ≡ put (variable (literal_of l)) b (truths values)
unfolding variable
bit_put values l b h = put-bit values (literal_of l / 2) b (omega (arith, variable_within l))
