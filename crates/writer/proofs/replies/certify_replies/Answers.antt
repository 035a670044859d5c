-- `writer::replies::certify_replies` writes the three records where the buffer has room for all. Assumes nothing.
use Rattle.std.proofs.Common.{◌^◌, ◌∙◌, ◌≡◌, ap, refl, take, arith}
use Rattle.std.proofs.lemmas.Result.{err_from_is_err_and}
use Rattle.circuit.specs.Circuit.{Circuit, latch_count, uncontrollable_count, controllable_count}
use Rattle.game.specs.CircuitGame.{circuit_game}
use Rattle.game.specs.Rank.{in_region}
use Rattle.game.specs.Reply.{reply}
use Rattle.records.specs.Kinds.{reply_kind_number}
use Rattle.records.specs.RegionBits.{region_bytes}
use Rattle.records.specs.ReplyTable.{table_bytes}
use Rattle.writer.specs.Inner.Solved.{Solved}
use Rattle.writer.proofs.Laws.Certified.{certified_ok, certified_err}
use Rattle.writer.proofs.Laws.InParts.{replies_in_parts}
use Rattle.writer.proofs.Laws.Solved.{states_are, readings_are}
use Rattle.writer.proofs.Laws.Tables.{cells_written, region_written}
use Rattle.writer.proofs.replies.certify_replies.Goals as goal
use Rattle.writer.proofs.replies.certify_replies.Goals.{After-fit}

-- the region and the replies of a solved circuit
module _ (w : After-fit) (c : Circuit) (solved : Solved c w.args.counts w.args.solution.now) where
  states : w.numbers-states.result ≡ 2 ^ latch_count c
  states = states_are c w.args.counts w.args.solution.now w.requires solved w.numbers-states.result w.numbers-states.ensures

  region_is : w.front.result.now ≡ region_bytes (in_region (circuit_game c)) (latch_count c)
  region_is = let a = w.args in
      w.front.ensures ∙ ap (take w.div_ceil.result) w.region_of-region.ensures
      ∙ region_written c a.counts a.solution.now w.requires solved w.numbers-states.result w.div_ceil.result states (omega (arith, w.div_ceil.ensures))

  cells_are :
      w.front-2.result.now
      ≡ table_bytes (reply_kind_number w.args.kind) (reply (circuit_game c)) (latch_count c) (uncontrollable_count c) (controllable_count c)
  cells_are = let a = w.args in
      w.front-2.ensures ∙ w.put_cells-bytes.ensures
      ∙ cells_written c a.counts a.solution.now w.requires solved (reply_kind_number a.kind) w.numbers-states.result w.numbers.result states
      (readings_are c a.counts a.solution.now w.requires solved w.numbers.result w.numbers.ensures)

pub returns-in_err-count : goal.returns-in_err-count
returns-in_err-count c = let p = err_from_is_err_and c.from_residual.result c.from_residual.ensures.1 in
    let w = (goal.at.returns-in_err-count c).After-fit in λ x solved verdict.
    rw (p.1, p.2) (certified_err _ _ x _ _ _ _ (replies_in_parts _ _ x verdict (region_is w x solved) c.from.ensures (cells_are w x solved))
    c.in_err-count.ensures)

pub returns : goal.returns
returns c = let w = (goal.at.returns c).After-fit in λ x solved verdict.
    certified_ok _ _ x _ _ _ _ _ (replies_in_parts _ _ x verdict (region_is w x solved) c.from.ensures (cells_are w x solved)) (rw verdict refl)
    c.in_ok-count.ensures
