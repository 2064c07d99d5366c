use Rattle.std.proofs.Common.{arith}
use Rattle.std.proofs.lemmas.Grind.{elements}
use Rattle.write_txn.proofs.places.close_gap.Goals as goal

pub returns-in-Some : goal.returns-in-Some
returns-in-Some c = grind (arith, elements)

pub returns-in_default : goal.returns-in_default
returns-in_default c = grind (arith, elements)
