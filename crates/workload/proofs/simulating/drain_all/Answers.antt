use Rattle.std.proofs.lemmas.Result.{err_from_is_err_and}
use Rattle.workload.proofs.Plays.{drain_plays, drain_ends}
use Rattle.workload.proofs.simulating.drain_all.Goals as goal

pub returns-in_err-drain-clause-ends : goal.returns-in_err-drain-clause-ends
returns-in_err-drain-clause-ends c =
    let p = err_from_is_err_and c.from_residual.result c.from_residual.ensures.1 in
    rw (p.1, p.2) (drain_ends c.args.world.now c.drain.new.world.events _ c.in_err-drain.ensures.refused)

pub returns-clause-ok : goal.returns-clause-ok
returns-clause-ok c = drain_plays c.args.world.now c.drain.new.world c.in_ok-drain.field-0 c.in_ok-drain.ensures.topology c.in_ok-drain.ensures.ok
