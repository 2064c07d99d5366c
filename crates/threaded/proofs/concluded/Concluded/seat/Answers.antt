use Rattle.std.proofs.Common.{arith}
use Rattle.std.proofs.lemmas.Grind.{elements}
use Rattle.threaded.proofs.concluded.Concluded.seat.Goals as goal

pub index-requires : goal.index-requires
index-requires c = grind (arith, elements)

pub returns-clause-some : goal.returns-clause-some
returns-clause-some c = grind (arith, elements)
