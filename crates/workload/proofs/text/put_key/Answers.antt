use Rattle.std.proofs.Common.{codes, ◌++◌, refl}
use Rattle.hex.specs.Hex.{encode_lower}
use Rattle.workload.proofs.Pieces.{ended, joined}
use Rattle.workload.proofs.text.put_key.Goals as goal

pub returns-in_err-put : goal.returns-in_err-put
returns-in_err-put g c =
    let first = codes " " in
    let second = codes " " ++ encode_lower c.args.key.now in
    let third = codes ":" in
    ended g.W.Write.contents _ _ _ c.from_residual.result _ first (second ++ third) refl c.from_residual.ensures.1 c.in_err-put.ensures.adds

pub returns-in_err-put_marked : goal.returns-in_err-put_marked
returns-in_err-put_marked g c =
    let first = codes " " in
    let second = codes " " ++ encode_lower c.args.key.now in
    let third = codes ":" in
    joined g.W.Write.contents _ _ _ _ _ _ first (second ++ third) refl c.in_ok-put.ensures.adds
    (ended g.W.Write.contents _ _ _ c.from_residual-in_err-put_marked.result (second ++ third) second third refl c.from_residual-in_err-put_marked.ensures.1 c.in_err-put_marked.ensures)

pub returns : goal.returns
returns g c =
    let first = codes " " in
    let second = codes " " ++ encode_lower c.args.key.now in
    let third = codes ":" in
    joined g.W.Write.contents _ _ _ _ _ _ first (second ++ third) refl c.in_ok-put.ensures.adds
    (joined g.W.Write.contents _ _ _ _ _ (second ++ third) second third refl c.in_ok-put_marked.ensures c.put-2.ensures.adds)
