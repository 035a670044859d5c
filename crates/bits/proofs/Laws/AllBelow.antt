-- Parts of a list of numbers below a bound are lists of numbers below it. Assumes nothing.
use Prim.Native.Nat.{ℕ, zero, suc}
use mathlib.Core.List.{List, [], ◌∷◌}
use lib.ListN.{take, drop}
use Rattle.bits.specs.Digits.{AllBelow}

pub all_below_take : (b n : ℕ) (ds : List ℕ) → AllBelow b ds → AllBelow b (take n ds)
all_below_take b zero ds h = tt
all_below_take b (suc n) [] h = tt
all_below_take b (suc n) (d ∷ ds) h = (h.0, all_below_take b n ds h.1)

pub all_below_drop : (b n : ℕ) (ds : List ℕ) → AllBelow b ds → AllBelow b (drop n ds)
all_below_drop b zero ds h = h
all_below_drop b (suc n) [] h = tt
all_below_drop b (suc n) (d ∷ ds) h = all_below_drop b n ds h.1
