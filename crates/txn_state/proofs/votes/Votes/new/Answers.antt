use Rattle.std.proofs.Common.{rules}
use Rattle.txn_state.proofs.votes.Votes.new.Goals as goal

pub returns-clause-ok : goal.returns-clause-ok
returns-clause-ok c = search rules
