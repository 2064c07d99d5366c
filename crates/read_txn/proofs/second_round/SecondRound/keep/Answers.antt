use Rattle.std.proofs.Common.{rules}
use Rattle.read_txn.proofs.second_round.SecondRound.keep.Goals as goal

pub returns-in-Err-clause-answer : goal.returns-in-Err-clause-answer
returns-in-Err-clause-answer c = search rules
