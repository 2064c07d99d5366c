use Rattle.running.proofs.Shown.{unconcluded}
use Rattle.running.proofs.scripts.concluded_from.Goals as goal

pub returns-in-Err-clause-refused : goal.returns-in-Err-clause-refused
returns-in-Err-clause-refused c = unconcluded c.args.script.now c.args.seats.items c.in-Err.fault c.in-Err.ensures.refused
