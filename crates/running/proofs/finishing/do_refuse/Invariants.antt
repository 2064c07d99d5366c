use Rattle.actors.specs.Draining.{AreLater}
use Rattle.running.proofs.finishing.do_refuse.Given as goal

abbrev pub invariant-loop-place : goal.invariant-loop-place
invariant-loop-place l = AreLater l.fn.seats l.seats
