use Rattle.std.proofs.Common.{rules}
use Rattle.read_txn.proofs.second_round.SecondRound.back.Goals as goal

pub returns-clause-round : goal.returns-clause-round
returns-clause-round c = search rules
