use Rattle.std.proofs.Common.{◌+◌, ◌-◌, length}
use Rattle.std.specs.Prelude.{if◌then◌else◌}
use Rattle.workload.proofs.Since.{ArePlaying}
use Rattle.workload.proofs.along.play_along.Given as goal

abbrev pub invariant-loop-is_open : goal.invariant-loop-is_open
invariant-loop-is_open l = ArePlaying l.topology (l.depth - 1) l.initial.reader l.reader l.world l.marks.items l.left l.is_open

abbrev pub decreases-loop-is_open : goal.decreases-loop-is_open
decreases-loop-is_open l = if l.is_open then length l.reader + 1 else 0
