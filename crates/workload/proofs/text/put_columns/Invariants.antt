use Rattle.std.proofs.Common.{◌≡◌, List, ◌++◌, length, Ok}
use Rattle.std.specs.List.{flat_map}
use Rattle.slice.specs.declared.column.Column.{Column}
use Rattle.program.specs.Outputs.{Adds}
use Rattle.workload.specs.Text.{column_text}
use Rattle.workload.proofs.text.put_columns.Given as goal

-- those before the rest are written
abbrev pub invariant-loop-rest : goal.invariant-loop-rest
invariant-loop-rest g l = (done : List Column) × (l.fn.columns ≡ done ++ l.rest) × Adds {T = Unit {0}} g.W.Write.contents l.fn.output l.output (Ok tt) (flat_map column_text done)

abbrev pub decreases-loop-rest : goal.decreases-loop-rest
decreases-loop-rest g l = length l.rest
