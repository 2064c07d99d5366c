use Rattle.std.proofs.Common.{rules}
use Rattle.txn_state.proofs.ballot.Ballot.time.Goals as goal

pub returns : goal.returns
returns c = search rules
