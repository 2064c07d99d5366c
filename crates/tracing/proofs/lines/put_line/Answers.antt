use Rattle.std.proofs.Common.{[], ◌∷◌, ◌++◌, refl}
use Rattle.tracing.specs.Lines.{quoted}
use Rattle.workload.proofs.Pieces.{ended, joined}
use Rattle.tracing.proofs.lines.put_line.Goals as goal

pub returns-in_err-put : goal.returns-in_err-put
returns-in_err-put g c =
    let line = c.args.line.now in
    ended g.W.Write.contents _ _ _ c.from_residual.result (quoted line) (34 ∷ []) (line ++ 34 ∷ []) refl c.from_residual.ensures.1 c.in_err-put.ensures.adds

pub returns-in_err-put-2 : goal.returns-in_err-put-2
returns-in_err-put-2 g c =
    let line = c.args.line.now in
    joined g.W.Write.contents _ _ _ _ _ (quoted line) (34 ∷ []) (line ++ 34 ∷ []) refl c.in_ok-put.ensures.adds
    (ended g.W.Write.contents _ _ _ c.from_residual-in_err-put-2.result (line ++ 34 ∷ []) line (34 ∷ []) refl c.from_residual-in_err-put-2.ensures.1 c.in_err-put-2.ensures.adds)

pub returns : goal.returns
returns g c =
    let line = c.args.line.now in
    joined g.W.Write.contents _ _ _ _ _ (quoted line) (34 ∷ []) (line ++ 34 ∷ []) refl c.in_ok-put.ensures.adds
    (joined g.W.Write.contents _ _ _ _ _ (line ++ 34 ∷ []) line (34 ∷ []) refl c.in_ok-put-2.ensures.adds c.put-3.ensures.adds)
