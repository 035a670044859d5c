-- What a search and the room of the rounds hold from call to call: the same net, set and memory. Assumes nothing.
use Rattle.std.specs.Prelude.{ℕ, Bool, List, ◌≡◌}
use Rattle.std.specs.Borrow.{Bor, MutBor}
use Rattle.keeping.specs.declared.rank_list.KeptControl.{KeptControl}
use Rattle.keeping.specs.declared.rank_list.Unranked.{Unranked}
use Rattle.solver.specs.Inner.Kept.{Kept}
use Rattle.solver.specs.declared.look.Search.{Search}
use Rattle.solver.specs.declared.planes.Slot.{Slot}
use Rattle.solver.specs.declared.rounds.Room.{Room}

abbrev pub Over : Search → (net : Bor (List ℕ)) → Unranked → MutBor (List ℕ) → MutBor (List KeptControl) → MutBor (List Slot) → Type 0
Over s net set words kept slots =
    (s.net ≡ net) × (s.set ≡ set) × (s.words.ghost_name ≡ words.ghost_name) × (s.kept.ghost_name ≡ kept.ghost_name)
    × (s.slots.ghost_name ≡ slots.ghost_name)

abbrev pub Same : (before after : Search) → Type 0
Same s t =
    (t.net ≡ s.net) × (t.set ≡ s.set) × (t.words.ghost_name ≡ s.words.ghost_name) × (t.kept.ghost_name ≡ s.kept.ghost_name)
    × (t.slots.ghost_name ≡ s.slots.ghost_name)

abbrev pub SameRoom : (before after : Room) → Type 0
SameRoom r t = (t.net ≡ r.net) × (t.kept.ghost_name ≡ r.kept.ghost_name) × (t.slots.ghost_name ≡ r.slots.ghost_name)

abbrev pub KeptIn : Room → (set : ℕ → Bool) → Type 0
KeptIn r set = Kept r.net.now set r.kept.now r.slots.now
