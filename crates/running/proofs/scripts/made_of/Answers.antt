use Rattle.std.proofs.Common.{rules}
use Rattle.actors.specs.Draining.{AreLater}
use Rattle.running.proofs.Shown.{ended_so}
use Rattle.running.proofs.scripts.made_of.Goals as goal

pub returns-in-Err-clause-refused : goal.returns-in-Err-clause-refused
returns-in-Err-clause-refused c =
    let later : AreLater c.args.seats.items c.finish.new.seats = search rules in
    ended_so c.args.script.now c.args.seats.items c.finish.new.seats later c.in-Err.fault c.known.result c.in-Err.ensures.refused c.known.ensures
