use Rattle.std.proofs.Common.{rules}
use Rattle.read_txn.proofs.first_round.FirstRound.keep.Goals as goal

pub returns-in-Err-after_answer-clause-round : goal.returns-in-Err-after_answer-clause-round
returns-in-Err-after_answer-clause-round c = search rules

pub returns-in-Err-after_answer-clause-rows : goal.returns-in-Err-after_answer-clause-rows
returns-in-Err-after_answer-clause-rows c = search rules
