use Rattle.std.proofs.Common.{[], ◌∷◌, refl}
use Rattle.hex.specs.Hex.{encode_lower}
use Rattle.workload.proofs.Pieces.{ended, joined}
use Rattle.workload.proofs.text.put_marked.Goals as goal

pub returns-in_err-put : goal.returns-in_err-put
returns-in_err-put g c =
    let first = c.args.mark ∷ [] in
    let second = encode_lower c.args.bytes.now in
    ended g.W.Write.contents _ _ _ c.from_residual.result _ first second refl c.from_residual.ensures.1 c.in_err-put.ensures.adds

pub returns : goal.returns
returns g c =
    let first = c.args.mark ∷ [] in
    let second = encode_lower c.args.bytes.now in
    joined g.W.Write.contents _ _ _ _ _ _ first second refl c.in_ok-put.ensures.adds c.put_many.ensures
