-- The stored region (01, "The certificate", kind 2: state s at bit s mod 8 of byte s div 8), as a statement. Assumes nothing.
use Rattle.std.specs.Prelude.{ℕ, List, ◌≡◌}
use Rattle.bits.specs.ByteBit.{byte_bit}

-- the region that these bytes store holds a state
abbrev pub Holds : (region : List ℕ) → (state : ℕ) → Type 0
Holds region s = byte_bit region s ≡ 1
