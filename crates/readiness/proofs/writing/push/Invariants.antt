use Rattle.std.proofs.Common.{◌-◌, length}
use Rattle.readiness.proofs.Buffers.{IsPushedTo}
use Rattle.readiness.proofs.writing.push.Given as goal

abbrev pub invariant-loop-gone : goal.invariant-loop-gone
invariant-loop-gone g l = IsPushedTo l.gone l.piece (g.L.ReadyLine.seen l.fn.line) (g.L.ReadyLine.seen l.line)

abbrev pub decreases-loop-gone : goal.decreases-loop-gone
decreases-loop-gone g l = length l.piece - l.gone
