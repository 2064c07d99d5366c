use Rattle.actors.proofs.Rounds.{seats_twice}
use Rattle.running.proofs.finishing.finish.Goals as goal

pub returns-clause-later : goal.returns-clause-later
returns-clause-later c = seats_twice c.args.seats.now c.confirm.new.seats c.drain.new.seats c.in_ok-confirm.ensures.later c.drain.ensures.later
