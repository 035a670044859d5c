-- What a text that was put on a page makes of it: of the buffer, and of the place behind the texts so far. Assumes nothing.
use Rattle.std.specs.Prelude.{ℕ, ◌+◌, ◌-◌, ◌^◌, ◌≤◌, min, List, ◌≡◌, length}
use Rattle.std.proofs.lemmas.List.Edits.{sets}
use Rattle.page.specs.declared.Page.{Page}

-- the last place that is counted
abbrev pub last_place : ℕ
last_place = 2 ^ 64 - 1

-- it is the same buffer, of the same length; the place is counted, and where the text fits it stands there
pub record Added (text : List ℕ) (old new : Page) : Type 0 where
  pub same : new.out.ghost_name ≡ old.out.ghost_name
  pub long : length new.out.now ≡ length old.out.now
  pub count : old.at ≤ last_place → new.at ≡ min (old.at + length text) last_place
  pub stand : old.at + length text ≤ min (length old.out.now) last_place → new.out.now ≡ sets old.out.now old.at text
