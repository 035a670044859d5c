-- The controls kept at places (01, "The game"), two numbers of each: one more than the control, 0 where none was found; and the state that it
-- leads to. Assumes nothing.
use Rattle.std.specs.Prelude.{ℕ, Bool, not, ◌&&◌, List, ltb, length, get_or}
use Rattle.below.specs.LeastFrom.{least_from}
use Rattle.keeping.specs.declared.rank_list.KeptControl.{KeptControl}

abbrev pub nothing : KeptControl
nothing = record { found = 0; lead = 0 }

-- a control was found, and leads into the set
unfoldable pub still_keeps : KeptControl → (set : ℕ → Bool) → Bool
still_keeps kept set = ltb 0 kept.found && set kept.lead

-- the control kept at a place doesn't
abbrev pub fails_in : (kept : List KeptControl) (set : ℕ → Bool) (place : ℕ) → Bool
fails_in kept set p = not (still_keeps (get_or kept p nothing) set)

-- the first place from one on where it doesn't, or as many as there are
unfoldable pub first_failed : (kept : List KeptControl) (set : ℕ → Bool) (from : ℕ) → ℕ
first_failed kept set from = least_from (fails_in kept set) from (length kept)
