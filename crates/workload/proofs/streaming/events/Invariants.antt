use Rattle.std.proofs.Common.{◌-◌, length}
use Rattle.workload.specs.Script.{event_of}
use Rattle.workload.specs.Streams.{SoFar}
use Rattle.workload.proofs.streaming.events.Given as goal

abbrev pub invariant-loop-alloc : goal.invariant-loop-alloc
invariant-loop-alloc l = SoFar (event_of l.topology) (l.depth - 1) l.initial.reader l.reader l.all.items

abbrev pub decreases-loop-alloc : goal.decreases-loop-alloc
decreases-loop-alloc l = length l.reader
