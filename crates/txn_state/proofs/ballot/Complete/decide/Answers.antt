use Rattle.std.proofs.Common.{rules}
use Rattle.txn_state.proofs.ballot.Complete.decide.Goals as goal

pub returns : goal.returns
returns c = search rules
