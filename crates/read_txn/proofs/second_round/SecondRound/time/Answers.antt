use Rattle.std.proofs.Common.{rules}
use Rattle.read_txn.proofs.second_round.SecondRound.time.Goals as goal

pub returns : goal.returns
returns c = search rules
