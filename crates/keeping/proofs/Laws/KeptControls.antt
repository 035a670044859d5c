-- The search for a place whose kept control doesn't keep any more, one place after the other. Assumes nothing.
use Prim.Native.Nat.{ℕ, ◌+◌, ◌<◌, ◌≤◌, min}
use native.Mathlib.Omega.{arith}
use mathlib.Core.Bool.{Bool, true, false, not}
use mathlib.Core.List.{List}
use mathlib.Core.Path.{◌≡◌, ap, ◌∙◌}
use lib.ListN.{length, get_or, take, length-take}
use lib.Seq.{get_or-take}
use Rattle.below.specs.LeastFrom.{least_from}
use Rattle.below.proofs.Laws.LeastFrom.{Searched, searched_start, from_same}
use Rattle.keeping.specs.KeptControls.{nothing, still_keeps, fails_in, first_failed}
use Rattle.keeping.specs.declared.rank_list.KeptControl.{KeptControl}
use Rattle.keeping.proofs.Laws.LaneSearch.{search_here, search_next, search_end}

module _ (kept : List KeptControl) (set : ℕ → Bool) where
  -- no place passed failed
  unfoldable pub NoneFailed : (from p : ℕ) → Type 0
  NoneFailed from p = Searched (fails_in kept set) from (length kept) (min p (length kept))

  module _ (from : ℕ) where
    pub none_yet : NoneFailed from from
    unfolding NoneFailed
    none_yet = searched_start _ _ _

    module _ (p : ℕ) (none : NoneFailed from p) where
      pub fails-here : p < length kept → still_keeps (get_or kept p nothing) set ≡ false → p ≡ first_failed kept set from
      unfolding NoneFailed first_failed
      fails-here h e = search_here (fails_in kept set) from (length kept) p none h (ap not e)

      pub none_here : p < length kept → still_keeps (get_or kept p nothing) set ≡ true → NoneFailed from (p + 1)
      unfolding NoneFailed
      none_here h e = search_next (fails_in kept set) from (length kept) p none h (ap not e)

      pub none_fails : length kept ≤ p → length kept ≡ first_failed kept set from
      unfolding NoneFailed first_failed
      none_fails h = search_end (fails_in kept set) from (length kept) p none h

  -- a search over the first places
  pub first_front : (n from : ℕ) → n ≤ length kept → first_failed (take n kept) set from ≡ least_from (fails_in kept set) from n
  unfolding first_failed
  first_front n from h =
      ap (least_from (fails_in (take n kept) set) from) {x = length (take n kept)} {y = n} (omega (arith, length-take n kept))
      ∙ from_same _ _ from n (λ p l. ap (λ (k : KeptControl). not (still_keeps k set)) (get_or-take n kept p nothing l))
