use Rattle.std.proofs.lemmas.Result.{err_from_is_err_and}
use Rattle.world.specs.World.{run_of}
use Rattle.workload.proofs.Since.{noted_from_start, ended_from_start}
use Rattle.workload.proofs.simulating.play_all.Goals as goal

pub returns-in_err-play_some-clause-ends : goal.returns-in_err-play_some-clause-ends
returns-in_err-play_some-clause-ends c =
    let p = err_from_is_err_and c.from_residual.result c.from_residual.ensures.1 in
    rw (p.1, p.2) (ended_from_start c.args.world.now c.new-marks.result.items c.args.events.now c.in_err-play_some.field-0.0 c.requires.opening c.new-marks.ensures.items c.in_err-play_some.ensures.ends)

pub returns-clause-ok : goal.returns-clause-ok
returns-clause-ok c =
    (noted_from_start c.args.world.now c.new-marks.result.items c.args.events.now (run_of c.play_some.new.world) c.play_some.new.marks.items c.requires.opening c.new-marks.ensures.items c.in_ok-play_some.ensures.ok).told
