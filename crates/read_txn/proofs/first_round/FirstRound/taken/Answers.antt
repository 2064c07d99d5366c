use Rattle.std.proofs.Common.{rules}
use Rattle.read_txn.proofs.first_round.FirstRound.taken.Goals as goal

pub returns-then-not-is_missing-clause-exact : goal.returns-then-not-is_missing-clause-exact
returns-then-not-is_missing-clause-exact c = search rules
