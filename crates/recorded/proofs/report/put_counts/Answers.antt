use Rattle.std.proofs.Common.{codes, decimal, ◌++◌, append_assoc}
use Rattle.workload.proofs.Pieces.{ended, joined}
use Rattle.recorded.proofs.report.put_counts.Goals as goal

pub returns-in_err-put_number : goal.returns-in_err-put_number
returns-in_err-put_number g c =
    let first = codes "audit reads " ++ decimal c.args.reads ++ codes " wrong " in
    let second = decimal c.args.wrong ++ codes "\n" in
    ended g.W.Write.contents _ _ _ c.from_residual.result _ first second (simp append_assoc) c.from_residual.ensures.1 c.in_err-put_number.ensures

pub returns : goal.returns
returns g c =
    let first = codes "audit reads " ++ decimal c.args.reads ++ codes " wrong " in
    let second = decimal c.args.wrong ++ codes "\n" in
    joined g.W.Write.contents _ _ _ _ _ _ first second (simp append_assoc) c.in_ok-put_number.ensures c.put_number-2.ensures
