use Rattle.threaded.specs.Matching.{ArePlaces}
use Rattle.threaded.proofs.concluding.places_of.Given as goal

abbrev pub invariant-loop-node : goal.invariant-loop-node
invariant-loop-node l = ArePlaces l.node l.seats l.places.items
