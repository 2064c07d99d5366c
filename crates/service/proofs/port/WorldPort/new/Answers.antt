use Rattle.std.proofs.Common.{rules}
use Rattle.service.proofs.port.WorldPort.new.Goals as goal

pub returns-clause-session_is : goal.returns-clause-session_is
returns-clause-session_is c = search rules
