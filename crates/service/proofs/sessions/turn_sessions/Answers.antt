use Rattle.std.proofs.Common.{rules}
use Rattle.service.proofs.sessions.turn_sessions.Goals as goal

pub returns-clause-turned : goal.returns-clause-turned
returns-clause-turned g c = search rules

pub returns-clause-rests : goal.returns-clause-rests
returns-clause-rests g c = search rules
