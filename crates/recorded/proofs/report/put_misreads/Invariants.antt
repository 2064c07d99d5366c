use Rattle.std.proofs.Common.{Ok, take}
use Rattle.std.specs.List.{flat_map}
use Rattle.program.specs.Outputs.{Adds}
use Rattle.recorded.specs.Report.{misread_text}
use Rattle.recorded.proofs.report.put_misreads.Given as goal

-- what is written before the next
abbrev pub invariant-loop-misread : goal.invariant-loop-misread
invariant-loop-misread g l = Adds {T = Unit {0}} g.W.Write.contents l.fn.output l.output (Ok tt) (flat_map misread_text (take l.misread-index l.misreads))
