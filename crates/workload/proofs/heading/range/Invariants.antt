use Rattle.std.proofs.Common.{◌-◌, length}
use Rattle.workload.specs.Streams.{BoundsSoFar}
use Rattle.workload.proofs.heading.range.Given as goal

abbrev pub invariant-loop-bounds : goal.invariant-loop-bounds
invariant-loop-bounds l = BoundsSoFar (l.depth - 1) l.initial.reader l.reader l.bounds

abbrev pub decreases-loop-bounds : goal.decreases-loop-bounds
decreases-loop-bounds l = length l.reader
