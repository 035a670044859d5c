-- A reply of a passed certificate (01, "The certificate": "Through it a reply is the stored one inside the stored region and 0 outside").
-- The bytes of the region may go on behind it; how the replies are stored is an argument. Assumes nothing.
use Rattle.std.specs.Prelude.{ℕ, cond, List}
use Rattle.records.specs.RegionBits.{holds_state}

unfoldable pub reply_in : (region : List ℕ) → (L : ℕ) → (stored : ℕ → ℕ → ℕ) → (state reading : ℕ) → ℕ
reply_in region L stored s r = cond (holds_state region L s) (stored s r) 0
