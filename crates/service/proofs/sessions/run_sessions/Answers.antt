use Rattle.std.proofs.Common.{rules}
use Rattle.service.proofs.sessions.run_sessions.Goals as goal

pub returns-clause-ran : goal.returns-clause-ran
returns-clause-ran g c = search rules

pub returns-clause-answered : goal.returns-clause-answered
returns-clause-answered g c = search rules
