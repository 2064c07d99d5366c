use Rattle.std.proofs.Common.{rules}
use Rattle.client.proofs.session.Session.new.Goals as goal

pub returns-clause-state : goal.returns-clause-state
returns-clause-state c = search rules
