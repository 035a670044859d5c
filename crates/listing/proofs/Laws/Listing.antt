-- Verdict, counts and lines, one behind the other, are the text of what the solver answers. Assumes nothing.
use Prim.Native.Nat.{ℕ}
use mathlib.Core.Bool.{true, false}
use mathlib.Core.List.{List, [], ◌∷◌}
use mathlib.Core.Path.{◌≡◌}
use Rattle.bits.specs.InTurn.{in_turn}
use Rattle.circuit.specs.declared.counts.Counts.{Counts}
use Rattle.page.specs.Added.{Added}
use Rattle.page.specs.declared.Page.{Page}
use Rattle.page.proofs.Laws.Added.{added_both}
use Rattle.solver.specs.declared.Solution.{Solution}
use Rattle.text.specs.Written.{number_line}
use Rattle.listing.specs.Page.{verdict_word}
use Rattle.listing.specs.Inner.SolvedText.{inside, reply_text, attack_text, numbers, solved_text}

module _ (n : Counts) (solution : Solution) {word : List ℕ} {states : ℕ} {p q r s : Page} where
  pub added_realizable :
      inside solution.ranks 0 ≡ true → word ≡ verdict_word true → states ≡ numbers n.latches → Added word p q
      → Added (number_line (n.latches ∷ n.readings ∷ n.controls ∷ [])) q r → Added (in_turn (reply_text solution (numbers n.readings)) states) r s
      → Added (solved_text n solution) p s
  unfolding solved_text
  added_realizable t e f a b c = rw (t, ← e, ← f) (added_both (added_both a b) c)

  pub added_unrealizable :
      inside solution.ranks 0 ≡ false → word ≡ verdict_word false → states ≡ numbers n.latches → Added word p q
      → Added (number_line (n.latches ∷ n.readings ∷ n.controls ∷ [])) q r → Added (in_turn (attack_text solution) states) r s
      → Added (solved_text n solution) p s
  unfolding solved_text
  added_unrealizable t e f a b c = rw (t, ← e, ← f) (added_both (added_both a b) c)
