use Rattle.workload.specs.Text.{row_text}
use Rattle.workload.proofs.Pieces.{each_ended}
use Rattle.workload.proofs.text.put_rows.Goals as goal

pub returns-in_err-put_row : goal.returns-in_err-put_row
returns-in_err-put_row g c =
    each_ended g.W.Write.contents _ c.loop-row.output _ tt _ c.from_residual.result row_text c.args.rows.now c.loop-row.row-index c.row-item.result
    c.loop-row-test.true c.row-item.is c.loop-row.invariant c.from_residual.ensures.1 c.in_err-put_row.ensures
