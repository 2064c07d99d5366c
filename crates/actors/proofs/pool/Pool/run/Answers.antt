use Rattle.std.proofs.Common.{◌<◌, rules, arith}
use Rattle.std.proofs.lemmas.Grind.{common_steps}
use Rattle.actors.proofs.pool.Pool.run.Goals as goal

pub returns-clause-each : goal.returns-clause-each
returns-clause-each g c = λ k d lt.
    let within : k < c.args.workers = search rules in
    let shift = c.in_ok-shifts.ensures.each k d within in
    shift.1.met

pub returns-in_err-shifts-clause-count : goal.returns-in_err-shifts-clause-count
returns-in_err-shifts-clause-count c = grind (arith, common_steps)

pub returns-in_err-shifts-clause-each : goal.returns-in_err-shifts-clause-each
returns-in_err-shifts-clause-each c = grind (arith, common_steps)

pub returns-in_err-shifts-clause-memory : goal.returns-in_err-shifts-clause-memory
returns-in_err-shifts-clause-memory c = grind (arith, common_steps)
