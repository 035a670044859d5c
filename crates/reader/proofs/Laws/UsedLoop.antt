-- The late 7, line by line. Assumes nothing.
use Prim.Native.Nat.{ℕ, suc, ◌+◌, ◌<◌, ◌≤◌}
use native.Mathlib.Numerals.{add-one}
use native.Mathlib.Nat.{add-zero, add-suc}
use mathlib.Core.Bool.{Bool, true, false, ◌||◌}
use mathlib.Core.List.{List, [], ◌∷◌}
use mathlib.Core.Path.{◌≡◌, refl, sym, ap, ap₂, ◌∙◌}
use lib.ListN.{length, get_or, drop, drop_of_length-le}
use lib.Seq.{drop-cons}
use Rattle.circuit.specs.Outcome.{taken, refused, ◌>>◌, refuse_if}
use Rattle.fields.specs.Inner.Marks.{Marks}
use Rattle.text.specs.Numbers.{not_defined}
use Rattle.text.specs.Rules.{any_unknown}
use Rattle.text.specs.Section.{used}
use Rattle.reader.specs.Inner.DefinedAs.{any_unmarked}
use Rattle.fields.proofs.Laws.Judged.{unknown-unmarked}

-- i lines use what is marked
pub record Known (marks : List ℕ) (literals : List (List ℕ)) (i : ℕ) : Type 0 where
  pub rest : (defined : List ℕ) (place : ℕ) → Marks marks defined → used defined place literals ≡ used defined (place + i) (drop i literals)

any-marked : (marks defined : List ℕ) → Marks marks defined → (ls : List ℕ) → any_unknown defined ls ≡ any_unmarked marks ls
unfolding any_unknown any_unmarked
any-marked marks defined says [] = refl
any-marked marks defined says (l ∷ ls) = ap₂ {C = Bool} (λ a b. a || b) (unknown-unmarked 0 marks defined says l) (any-marked marks defined says ls)

module _ (marks : List ℕ) (literals : List (List ℕ)) where
  pub known_start : Known marks literals 0
  known_start = record { rest = λ defined place says. ap (λ (p : ℕ). used defined p literals) (sym (add-zero place)) }

  module _ (i : ℕ) (so : Known marks literals i) (more : i < length literals) where
    here : (defined : List ℕ) (place : ℕ) → Marks marks defined → used defined place
        literals ≡ (refuse_if (any_unmarked marks (get_or literals i [])) not_defined (place + i) >> used defined (suc (place + i)) (drop (suc i) literals))
    unfolding used
    here defined place says = so.rest defined place says ∙ rw (drop-cons literals i [] more)
        (ap (λ (b : Bool). refuse_if b not_defined (place + i) >> used defined (suc (place + i)) (drop (suc i) literals))
        (any-marked marks defined says (get_or literals i [])))

    pub known_more : any_unmarked marks (get_or literals i []) ≡ false → Known marks literals (i + 1)
    unfolding refuse_if
    known_more e = record {
      rest = λ defined place says. rw (add-one i) (here defined place says ∙ rw e
          (ap (λ (p : ℕ). used defined p (drop (suc i) literals)) (sym (add-suc place i))));
    }

    pub unknown-here : any_unmarked marks (get_or literals i []) ≡ true → (defined : List ℕ) (place : ℕ) → Marks marks defined
        → used defined place literals ≡ refused not_defined (place + i)
    unfolding refuse_if
    unknown-here e defined place says = here defined place says ∙ rw e

  pub all_known : (i : ℕ) → Known marks literals i → length literals ≤ i → (defined : List ℕ) (place : ℕ) → Marks marks defined
      → used defined place literals ≡ taken tt
  unfolding used
  all_known i so high defined place says = so.rest defined place says ∙ rw (drop_of_length-le literals {i = i} high)
