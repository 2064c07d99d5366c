use Rattle.std.proofs.Common.{rules}
use Rattle.txn_state.proofs.remote_ballot.RemoteBallot.dep_ok.Goals as goal

pub returns : goal.returns
returns c = search rules
