-- `writer::attacks::certify_attacks` writes the two records where the buffer has room for both. Assumes nothing.
use Rattle.std.proofs.Common.{◌∙◌, ◌≡◌, refl}
use Rattle.std.proofs.lemmas.Result.{err_from_is_err_and}
use Rattle.circuit.specs.Circuit.{Circuit, latch_count}
use Rattle.game.specs.Attack.{attack}
use Rattle.game.specs.CircuitGame.{circuit_game}
use Rattle.game.specs.Rank.{rank}
use Rattle.records.specs.AttackTable.{attack_bytes}
use Rattle.writer.specs.Inner.Solved.{Solved}
use Rattle.writer.proofs.Laws.Certified.{certified_ok, certified_err}
use Rattle.writer.proofs.Laws.InParts.{attacks_in_parts}
use Rattle.writer.proofs.Laws.Solved.{states_are}
use Rattle.writer.proofs.Laws.Tables.{attacks_written}
use Rattle.writer.proofs.attacks.certify_attacks.Goals as goal
use Rattle.writer.proofs.attacks.certify_attacks.Goals.{After-fit}

rows_are :
    (w : After-fit) (c : Circuit) → Solved c w.args.counts w.args.solution.now
    → w.front.result.now ≡ attack_bytes (rank (circuit_game c)) (attack (circuit_game c)) (latch_count c)
rows_are w c solved = let a = w.args in
    w.front.ensures ∙ w.rows_of-rows.ensures
    ∙ attacks_written c a.counts a.solution.now w.requires solved w.numbers-states.result
    (states_are c a.counts a.solution.now w.requires solved w.numbers-states.result w.numbers-states.ensures)

pub returns-in_err-count : goal.returns-in_err-count
returns-in_err-count c = let p = err_from_is_err_and c.from_residual.result c.from_residual.ensures.1 in λ kind x solved verdict.
    rw (p.1, p.2) (certified_err kind _ x _ _ _ _ (attacks_in_parts kind _ x verdict (rows_are (goal.at.returns-in_err-count c).After-fit x solved))
    c.in_err-count.ensures)

pub returns : goal.returns
returns c = λ kind x solved verdict.
    certified_ok kind _ x _ _ _ _ _ (attacks_in_parts kind _ x verdict (rows_are (goal.at.returns c).After-fit x solved)) (rw verdict refl)
    c.in_ok-count.ensures
