use Rattle.std.proofs.Common.{arith}
use Rattle.threaded.proofs.Looked.{place_found, one_more_elsewhere, nowhere}
use Rattle.threaded.proofs.concluding.place_of.Goals as goal

pub returns-then-eq-clause-some : goal.returns-then-eq-clause-some
returns-then-eq-clause-some c = grind (arith, place_found, one_more_elsewhere, nowhere)

pub loop-place-preserved : goal.loop-place-preserved
loop-place-preserved c = grind (arith, place_found, one_more_elsewhere, nowhere)

pub returns-clause-none : goal.returns-clause-none
returns-clause-none c = grind (arith, place_found, one_more_elsewhere, nowhere)
