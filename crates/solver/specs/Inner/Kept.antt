-- What is kept of each place (01, "The game"): the least control that didn't fail yet, and the state that it leads to. Assumes nothing.
use Rattle.std.specs.Prelude.{ℕ, ◌+◌, ◌-◌, ◌^◌, ◌<◌, ◌≤◌, Bool, false, List, ◌≡◌, length, get_or}
use Rattle.keeping.specs.KeptControls.{nothing}
use Rattle.keeping.specs.declared.rank_list.KeptControl.{KeptControl}
use Rattle.net.specs.Net.{net_controls}
use Rattle.net.specs.Sized.{Sized}
use Rattle.solver.specs.Inner.Moves.{place_keeps, places}
use Rattle.solver.specs.Inner.Planes.{AllHeld}
use Rattle.solver.specs.declared.planes.Slot.{Slot}

-- no control before that one keeps in the set, and that one keeps in any set exactly if its state is in it
pub record KeptAt (net : List ℕ) (set : ℕ → Bool) (place : ℕ) (control : KeptControl) : Type 0 where
  pub few : control.found ≤ 2 ^ net_controls net
  pub failed : (j : ℕ) → j + 1 < control.found → place_keeps net set place j ≡ false
  pub leads : 0 < control.found → (these : ℕ → Bool) → place_keeps net these place (control.found - 1) ≡ these control.lead

-- all that is kept, of each place and of each slot of planes
pub record Kept (net : List ℕ) (set : ℕ → Bool) (kept : List KeptControl) (slots : List Slot) : Type 0 where
  pub sized : Sized net
  pub long : places net ≤ length kept
  pub some : 0 < length slots
  pub held : AllHeld net slots
  pub at : (p : ℕ) → p < places net → KeptAt net set p (get_or kept p nothing)

-- the control kept at a place doesn't keep any more either
abbrev pub Behind : (net : List ℕ) (set : ℕ → Bool) (place : ℕ) (kept : List KeptControl) → Type 0
Behind net set place kept = (j : ℕ) → j < (get_or kept place nothing).found → place_keeps net set place j ≡ false
