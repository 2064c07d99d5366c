use Rattle.std.proofs.Common.{◌∙◌, ◌++◌, append_assoc, decimal, refl}
use Rattle.workload.proofs.Pieces.{ended, joined}
use Rattle.recorded.proofs.report.put_number.Goals as goal

pub returns-in_err-put : goal.returns-in_err-put
returns-in_err-put g c =
    let first = c.args.before.now in
    let rest = decimal c.args.number ++ c.args.behind.now in
    ended g.W.Write.contents _ _ _ c.from_residual.result _ first rest (append_assoc first (decimal c.args.number) c.args.behind.now) c.from_residual.ensures.1 c.in_err-put.ensures.adds

pub returns-in_err-put-2 : goal.returns-in_err-put-2
returns-in_err-put-2 g c =
    let first = c.args.before.now in
    let second = decimal c.args.number in
    let third = c.args.behind.now in
    let is = c.as_bytes.ensures.value ∙ c.format.ensures.text in
    joined g.W.Write.contents _ _ _ _ _ _ first (second ++ third) (append_assoc first second third) c.in_ok-put.ensures.adds
    (ended g.W.Write.contents _ _ _ c.from_residual-in_err-put-2.result (second ++ third) second third refl c.from_residual-in_err-put-2.ensures.1 (rw is at c.in_err-put-2.ensures.adds))

pub returns : goal.returns
returns g c =
    let first = c.args.before.now in
    let second = decimal c.args.number in
    let third = c.args.behind.now in
    let is = c.as_bytes.ensures.value ∙ c.format.ensures.text in
    joined g.W.Write.contents _ _ _ _ _ _ first (second ++ third) (append_assoc first second third) c.in_ok-put.ensures.adds
    (joined g.W.Write.contents _ _ _ _ _ (second ++ third) second third refl (rw is at c.in_ok-put-2.ensures.adds) c.put-3.ensures.adds)
