-- The listing's text (01, "Listings to compare") by what the solver answers: L, U and C, and the lists of ranks, replies and attacks, a
-- reply at index s × 2^U + reading. Assumes nothing.
use Rattle.std.specs.Prelude.{ℕ, ◌+◌, ◌*◌, ◌^◌, min, Bool, cond, List, [], ◌∷◌, ◌++◌, eqb, get_or}
use Rattle.below.specs.Table.{table}
use Rattle.bits.specs.Bit.{one_if}
use Rattle.bits.specs.InTurn.{in_turn}
use Rattle.circuit.specs.Limits.{base}
use Rattle.circuit.specs.declared.counts.Counts.{Counts}
use Rattle.keeping.specs.RankList.{ranks_in}
use Rattle.solver.specs.declared.Solution.{Solution}
use Rattle.text.specs.Written.{number_line}
use Rattle.listing.specs.Page.{verdict_word}

-- a state is in the region if its rank is 0
unfoldable pub inside : (ranks : List ℕ) → (state : ℕ) → Bool
inside ranks s = eqb (ranks_in ranks s) 0

-- the line of a state: its number, 1 or 0 for in or out, the replies by reading; or its number, rank and attack
unfoldable pub reply_text : Solution → (readings state : ℕ) → List ℕ
reply_text solution readings s =
    number_line (s ∷ one_if (inside solution.ranks s) ∷ table (λ r. get_or solution.replies (s * readings + r) 0) readings)

unfoldable pub attack_text : Solution → (state : ℕ) → List ℕ
attack_text solution s = number_line (s ∷ ranks_in solution.ranks s ∷ get_or solution.attacks s 0 ∷ [])

-- how many numbers so many bits make, of as many bits as a state may have
abbrev pub numbers : ℕ → ℕ
numbers n = 2 ^ min n base.latches

unfoldable pub solved_text : Counts → Solution → List ℕ
solved_text n solution =
    verdict_word (inside solution.ranks 0)
    ++ number_line (n.latches ∷ n.readings ∷ n.controls ∷ [])
    ++ cond (inside solution.ranks 0)
    (in_turn (reply_text solution (numbers n.readings)) (numbers n.latches))
    (in_turn (attack_text solution) (numbers n.latches))
