use Rattle.std.proofs.Common.{length, refl}
use Rattle.std.specs.List.{flat_map}
use Rattle.workload.proofs.Pieces.{ended, joined}
use Rattle.recorded.specs.Report.{misread_text, counts_text}
use Rattle.recorded.proofs.report.put_report.Goals as goal

pub returns-in_err-put_misreads : goal.returns-in_err-put_misreads
returns-in_err-put_misreads g c =
    let first = flat_map misread_text c.args.wrong.now in
    let second = counts_text c.args.reads (length c.args.wrong.now) in
    ended g.W.Write.contents _ _ _ c.from_residual.result _ first second refl c.from_residual.ensures.1 c.in_err-put_misreads.ensures

pub returns : goal.returns
returns g c =
    let first = flat_map misread_text c.args.wrong.now in
    let second = counts_text c.args.reads (length c.args.wrong.now) in
    joined g.W.Write.contents _ _ _ _ _ _ first second refl c.in_ok-put_misreads.ensures c.put_counts.ensures
