use Rattle.std.proofs.Common.{rules}
use Rattle.read_txn.proofs.second_round.SecondRound.take.Goals as goal

pub returns-then-not-awaits-clause-exact : goal.returns-then-not-awaits-clause-exact
returns-then-not-awaits-clause-exact c = search rules
