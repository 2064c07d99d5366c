use Rattle.std.proofs.Common.{codes, decimal, ◌++◌}
use Rattle.std.specs.List.{flat_map}
use Rattle.workload.specs.Text.{op_text, row_text}
use Rattle.workload.proofs.Pieces.{behind, ended, joined}
use Rattle.workload.proofs.text.put_read.Goals as goal

pub returns-in_err-put : goal.returns-in_err-put
returns-in_err-put g c =
    let op = op_text c.args.node c.args.number in
    let time = decimal c.args.effective in
    let rows = flat_map row_text c.args.rows.now in
    ended g.W.Write.contents _ _ _ c.from_residual.result _ (op ++ codes " read at " ++ time ++ codes "\n") rows (behind op (codes " read at ") time (codes "\n") rows) c.from_residual.ensures.1
    (rw c.lay_read-end.ensures.laid at c.in_err-put.ensures.adds)

pub returns : goal.returns
returns g c =
    let op = op_text c.args.node c.args.number in
    let time = decimal c.args.effective in
    let rows = flat_map row_text c.args.rows.now in
    joined g.W.Write.contents _ _ _ _ _ _ (op ++ codes " read at " ++ time ++ codes "\n") rows (behind op (codes " read at ") time (codes "\n") rows)
    (rw c.lay_read-end.ensures.laid at c.in_ok-put.ensures.adds) c.put_rows.ensures
