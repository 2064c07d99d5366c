use Rattle.std.proofs.Common.{length}
use Rattle.workload.specs.Streams.{HeadingSoFar}
use Rattle.workload.proofs.heading.header.Given as goal

abbrev pub invariant-loop-name : goal.invariant-loop-name
invariant-loop-name l = HeadingSoFar l.depth l.initial.reader l.reader l.heading

abbrev pub decreases-loop-name : goal.decreases-loop-name
decreases-loop-name l = length l.reader
