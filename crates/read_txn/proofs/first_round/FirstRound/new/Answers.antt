use Rattle.std.proofs.Common.{rules}
use Rattle.read_txn.proofs.first_round.FirstRound.new.Goals as goal

pub returns : goal.returns
returns c = search rules
