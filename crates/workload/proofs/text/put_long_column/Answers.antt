use Rattle.std.proofs.Common.{codes, ◌++◌, append_assoc}
use Rattle.hex.specs.Hex.{encode_lower}
use Rattle.workload.proofs.Pieces.{ended, joined}
use Rattle.workload.proofs.text.put_long_column.Goals as goal

pub returns-in_err-put_marked : goal.returns-in_err-put_marked
returns-in_err-put_marked g c =
    let first = codes " " ++ encode_lower c.args.name.now in
    let second = codes "=" ++ encode_lower c.args.value.now in
    ended g.W.Write.contents _ _ _ c.from_residual.result _ first second (simp append_assoc) c.from_residual.ensures.1 c.in_err-put_marked.ensures

pub returns : goal.returns
returns g c =
    let first = codes " " ++ encode_lower c.args.name.now in
    let second = codes "=" ++ encode_lower c.args.value.now in
    joined g.W.Write.contents _ _ _ _ _ _ first second (simp append_assoc) c.in_ok-put_marked.ensures c.put_marked-2.ensures
