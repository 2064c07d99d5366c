use Rattle.std.proofs.Common.{◌-◌, length}
use Rattle.workload.specs.Streams.{SoFar}
use Rattle.workload.proofs.streaming.list_in.Given as goal

abbrev pub invariant-loop-alloc : goal.invariant-loop-alloc
invariant-loop-alloc g l = SoFar g.T.Shaped.stands_for (l.depth - 1) l.initial.reader l.reader l.all.items

abbrev pub decreases-loop-alloc : goal.decreases-loop-alloc
decreases-loop-alloc g l = length l.reader
