use Rattle.std.proofs.Common.{◌+◌, ◌≤◌, length}
use Rattle.workload.specs.Script.{event_of}
use Rattle.workload.specs.Streams.{SoFar}
use Rattle.workload.proofs.along.next_events.Given as goal

-- each event that was read takes a token at least
abbrev pub invariant-loop-alloc : goal.invariant-loop-alloc
invariant-loop-alloc l = SoFar (event_of l.topology) l.depth l.initial.reader l.reader l.events.items × (length l.reader + length l.events.items ≤ length l.initial.reader)

abbrev pub decreases-loop-alloc : goal.decreases-loop-alloc
decreases-loop-alloc l = length l.reader
