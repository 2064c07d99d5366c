use Rattle.running.proofs.Loading.{HaveFirstAsked}
use Rattle.running.proofs.seats.load_all.Given as goal

abbrev pub invariant-loop-place : goal.invariant-loop-place
invariant-loop-place l = HaveFirstAsked l.events l.fn.seats l.seats l.place
