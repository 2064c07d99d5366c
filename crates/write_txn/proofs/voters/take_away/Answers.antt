use Rattle.std.proofs.Common.{rules}
use Rattle.write_txn.proofs.voters.take_away.Goals as goal

pub returns : goal.returns
returns c = search rules
