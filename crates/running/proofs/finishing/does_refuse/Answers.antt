use Rattle.std.proofs.Common.{◌≡◌, subst, rules}
use Rattle.actors.specs.Refusals.{CanRefuse}
use Rattle.actors.proofs.Rounds.{turn_later}
use Rattle.threaded.specs.Machines.{Refuses}
use Rattle.running.proofs.finishing.does_refuse.Goals as goal

pub returns-in-Ok-clause-later : goal.returns-in-Ok-clause-later
returns-in-Ok-clause-later c = turn_later Refuses c.in-Ok.field-0 c.args.seat.now c.turn.new.self c.in-Ok.ensures.ok

pub returns-in-Err-clause-refused : goal.returns-in-Err-clause-refused
returns-in-Err-clause-refused c = λ on.
    let same : c.in-Err.refused ≡ c.args.fault = search rules in
    subst (λ f. CanRefuse Refuses f c.turn.new.self) same c.in-Err.ensures.refused
