use Rattle.workload.specs.Text.{column_text}
use Rattle.workload.proofs.Pieces.{each_ended}
use Rattle.workload.proofs.text.put_each_column.Goals as goal

pub returns-in_err-put_column : goal.returns-in_err-put_column
returns-in_err-put_column g c =
    each_ended g.W.Write.contents _ c.loop-column.output _ tt _ c.from_residual.result column_text c.args.columns.now c.loop-column.column-index c.column-item.result
    c.loop-column-test.true c.column-item.is c.loop-column.invariant c.from_residual.ensures.1 c.in_err-put_column.ensures
