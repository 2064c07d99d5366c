use Rattle.std.proofs.Common.{rules}
use Rattle.txn_state.proofs.remote_ballot.RemoteBallot.ready.Goals as goal

pub returns-then-is_empty : goal.returns-then-is_empty
returns-then-is_empty c = search rules
