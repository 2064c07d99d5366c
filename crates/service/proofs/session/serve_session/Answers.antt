use Rattle.std.proofs.Common.{rules}
use Rattle.service.proofs.session.serve_session.Goals as goal

pub returns-clause-served : goal.returns-clause-served
returns-clause-served c = search rules
