use Rattle.std.proofs.Common.{rules}
use Rattle.service.proofs.sessions.WorldSessionsSharedPort.ask.Goals as goal

pub returns-then-place-sessions-clause-step : goal.returns-then-place-sessions-clause-step
returns-then-place-sessions-clause-step g c = search rules
