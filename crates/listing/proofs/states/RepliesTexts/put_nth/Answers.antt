-- `listing::states::Replies` puts a state's number, 1 or 0 for in or out, and the replies. Assumes nothing.
use Prim.Native.Nat.{◌≤◌}
use native.Mathlib.Omega.{arith}
use lib.ListN.{length}
use Rattle.page.specs.Added.{last_place}
use Rattle.listing.proofs.Laws.Line.{added_replies}
use Rattle.listing.proofs.states.RepliesTexts.put_nth.Goals as goal

pub returns : goal.returns
returns c =
    let solution = c.args.self.now.0.solution.now in
    let few : length solution.replies ≤ last_place = omega (arith, c.well_formed) in
    added_replies solution _ c.args.state c.is_inside.ensures c.from.ensures c.numbers-readings.ensures c.saturating_mul.ensures few c.number.ensures
    c.field.ensures c.in_turn.ensures c.bytes.ensures
