-- What `checker::replies::ReplyTables::broken_place` keeps: no reply of the places passed breaks the rule. Assumes nothing.
use Prim.Native.Nat.{◌+◌, ◌*◌, ◌^◌}
use mathlib.Core.Path.{◌≡◌}
use Rattle.net.specs.Net.{net_readings}
use Rattle.records.specs.Kinds.{reply_kind_number}
use Rattle.checker.specs.Inner.Faults.{place_fault}
use Rattle.checker.proofs.Laws.Found.{Behind}
use Rattle.checker.proofs.replies.ReplyTables.broken_place.Given as goal

abbrev pub invariant-loop-state : goal.invariant-loop-state
invariant-loop-state l =
    (l.evaluated.net.now ≡ l.self.net.numbers.now)
    × Behind (place_fault l.self.net.numbers.now l.self.region.now (reply_kind_number l.self.kind) l.self.table.now)
    (l.state * 2 ^ net_readings l.self.net.numbers.now)

abbrev pub invariant-loop-reading : goal.invariant-loop-reading
invariant-loop-reading l =
    (l.evaluated.net.now ≡ l.self.net.numbers.now)
    × Behind (place_fault l.self.net.numbers.now l.self.region.now (reply_kind_number l.self.kind) l.self.table.now)
    (l.state * 2 ^ net_readings l.self.net.numbers.now + l.reading)
