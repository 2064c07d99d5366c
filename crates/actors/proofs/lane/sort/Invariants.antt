use Rattle.std.proofs.Common.{◌-◌, length}
use Rattle.actors.proofs.Lanes.{Sorted}
use Rattle.actors.proofs.lane.sort.Given as goal

abbrev pub invariant-loop-number : goal.invariant-loop-number
invariant-loop-number l = Sorted l.lanes.items l.fn.lanes.items l.outbox.sent l.fn.outbox.sent l.number

abbrev pub decreases-loop-number : goal.decreases-loop-number
decreases-loop-number l = length l.outbox.sent - l.number
