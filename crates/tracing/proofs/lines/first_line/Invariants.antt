use Rattle.std.proofs.Common.{◌≡◌, take, false}
use Rattle.program.specs.Lines.{has_end}
use Rattle.tracing.proofs.lines.first_line.Given as goal

-- no line ends before
abbrev pub invariant-loop-end : goal.invariant-loop-end
invariant-loop-end l = has_end (take l.end l.text) ≡ false
