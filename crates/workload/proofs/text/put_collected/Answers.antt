use Rattle.std.proofs.Common.{codes, refl}
use Rattle.workload.specs.Text.{op_text}
use Rattle.workload.proofs.Pieces.{ended, joined}
use Rattle.workload.proofs.text.put_collected.Goals as goal

pub returns-in_err-put : goal.returns-in_err-put
returns-in_err-put g c =
    let first = op_text c.args.node c.args.number in
    let second = codes " collected\n" in
    ended g.W.Write.contents _ _ _ c.from_residual.result _ first second refl c.from_residual.ensures.1 (rw c.lay_op-end.ensures.laid at c.in_err-put.ensures.adds)

pub returns : goal.returns
returns g c =
    let first = op_text c.args.node c.args.number in
    let second = codes " collected\n" in
    joined g.W.Write.contents _ _ _ _ _ _ first second refl (rw c.lay_op-end.ensures.laid at c.in_ok-put.ensures.adds) c.put-2.ensures.adds
