use Rattle.std.proofs.Common.{Ok, take}
use Rattle.std.specs.List.{flat_map}
use Rattle.program.specs.Outputs.{Adds}
use Rattle.workload.specs.Text.{row_text}
use Rattle.workload.proofs.text.put_rows.Given as goal

-- what is written before the next
abbrev pub invariant-loop-row : goal.invariant-loop-row
invariant-loop-row g l = Adds {T = Unit {0}} g.W.Write.contents l.fn.output l.output (Ok tt) (flat_map row_text (take l.row-index l.rows))
