use Rattle.running.proofs.ToldMore.{no_seat_took, seat_took}
use Rattle.running.proofs.telling.took.Goals as goal

pub returns-in-Some : goal.returns-in-Some
returns-in-Some c = seat_took c.args.script.now c.args.concluded.now.seats c.args.node c.in-Some.seat.now c.has_taken.result c.in-Some.ensures.some c.has_taken.ensures

pub returns-in-None : goal.returns-in-None
returns-in-None c = (λ no. absurd (cc), λ took. absurd (no_seat_took c.args.script.now c.args.concluded.now.seats c.args.node c.in-None.ensures.none took))
