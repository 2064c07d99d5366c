use Rattle.std.proofs.Common.{arith}
use Rattle.read_txn.proofs.AskedAgain.{all_again}
use Rattle.read_txn.proofs.second_round.SecondRound.after_answer.Goals as goal

pub returns-then-all_heard_at-clause-exact : goal.returns-then-all_heard_at-clause-exact
returns-then-all_heard_at-clause-exact c = grind (arith, all_again)
