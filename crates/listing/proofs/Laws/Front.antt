-- Reading, then the listing of the circuit or the refusal: the page of a file. Assumes nothing.
use Prim.Native.Nat.{ℕ}
use mathlib.Core.List.{List}
use mathlib.Core.Path.{◌≡◌, sym, ap, ◌∙◌, subst}
use Rattle.std.specs.Prelude.{Result, Ok, Err}
use Rattle.circuit.specs.Answer.{ReadAs}
use Rattle.circuit.specs.Circuit.{Circuit}
use Rattle.circuit.specs.Counts.{counts_of}
use Rattle.circuit.specs.Fault.{number_of}
use Rattle.circuit.specs.Stored.{meant, solvable}
use Rattle.circuit.specs.declared.Circuit.{Circuit as Value}
use Rattle.circuit.specs.declared.counts.Counts.{Counts}
use Rattle.circuit.specs.declared.numbers.Refusal.{Refusal}
use Rattle.file.specs.CircuitIn.{circuit_in}
use Rattle.file.proofs.Laws.Read.{Means, taken_means, refused_means}
use Rattle.file.proofs.Laws.Within.{Within, read_within}
use Rattle.game.specs.CircuitGame.{circuit_game}
use Rattle.solver.specs.Solution.{solution_of}
use Rattle.solver.specs.declared.Solution.{Solution}
use Rattle.listing.specs.Page.{PageAs, refusal_text, page_for, page_of}
use Rattle.listing.specs.Inner.SolvedText.{solved_text}
use Rattle.listing.proofs.Laws.Solved.{solved_is_listing}

same_written : {page other before after : List ℕ} {w : Result ℕ Refusal} → page ≡ other → PageAs page before after w → PageAs other before after w
same_written {before = before} {after} {w} e p = subst (λ (l : List ℕ). PageAs l before after w) e p

module _ (file : List ℕ) (r : Result Value Refusal) (given : ReadAs (circuit_in file) r) (before after : List ℕ) (w : Result ℕ Refusal) where
  pub front_listed :
      (v : Value) (lent : Circuit) (n : Counts) (s : Solution) → r ≡ Ok v → lent ≡ meant v → n ≡ counts_of lent
      → s ≡ solution_of (circuit_game (solvable (meant v))) → PageAs (solved_text n s) before after w → PageAs (page_of file) before after w
  unfolding page_of page_for
  front_listed v lent n s e l a b p =
      let m : Means file v = taken_means file r given v e in
      let c : Circuit = m.circuit in
      let i : Within file c = read_within file c m.read in
      let counts : n ≡ counts_of c = a ∙ ap counts_of (l ∙ m.meant_is) in
      let solved : s ≡ solution_of (circuit_game c) = b ∙ ap (λ (d : Circuit). solution_of (circuit_game d)) m.solvable-is in
      same_written (solved_is_listing c n s counts solved i.few_latches i.few_readings ∙ sym (ap page_for m.read)) p

  pub front_refused :
      (x : Refusal) → r ≡ Err x → PageAs (refusal_text (number_of x.fault) x.place) before after w → PageAs (page_of file) before after w
  unfolding page_of page_for
  front_refused x e p = same_written (sym (ap page_for (refused_means file r given x e))) p
