use Rattle.std.proofs.Common.{Ok, take}
use Rattle.std.specs.List.{flat_map}
use Rattle.program.specs.Outputs.{Adds}
use Rattle.workload.specs.Text.{column_text}
use Rattle.workload.proofs.text.put_each_column.Given as goal

-- what is written before the next
abbrev pub invariant-loop-column : goal.invariant-loop-column
invariant-loop-column g l = Adds {T = Unit {0}} g.W.Write.contents l.fn.output l.output (Ok tt) (flat_map column_text (take l.column-index l.columns))
