use Rattle.std.proofs.Common.{take}
use Rattle.std.specs.List.{flat_map}
use Rattle.workload.proofs.Pieces.{each_ended, each_next, joined}
use Rattle.recorded.specs.Report.{misread_text}
use Rattle.recorded.proofs.report.put_misreads.Goals as goal

pub returns-in_err-put_misread : goal.returns-in_err-put_misread
returns-in_err-put_misread g c =
    each_ended g.W.Write.contents _ c.loop-misread.output _ tt _ c.from_residual.result misread_text c.args.misreads.now c.loop-misread.misread-index c.misread-item.result
    c.loop-misread-test.true c.misread-item.is c.loop-misread.invariant c.from_residual.ensures.1 c.in_err-put_misread.ensures

pub loop-misread-preserved : goal.loop-misread-preserved
loop-misread-preserved g c =
    let misreads = c.args.misreads.now in
    let place = c.loop-misread.misread-index in
    joined g.W.Write.contents _ c.loop-misread.output _ tt _ _ (flat_map misread_text (take place misreads)) (misread_text c.misread-item.result)
    (each_next misread_text misreads place c.misread-item.result c.loop-misread-test.true c.misread-item.is) c.loop-misread.invariant c.in_ok-put_misread.ensures
