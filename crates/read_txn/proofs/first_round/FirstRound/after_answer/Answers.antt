use Rattle.std.proofs.Common.{rules}
use Rattle.read_txn.proofs.first_round.FirstRound.after_answer.Goals as goal

pub returns-then-all_heard-clause-exact : goal.returns-then-all_heard-clause-exact
returns-then-all_heard-clause-exact c = search rules
