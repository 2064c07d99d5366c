use Rattle.std.proofs.Common.{rules}
use Rattle.service.proofs.awaited.ask_present.Goals as goal

pub returns-clause-asks : goal.returns-clause-asks
returns-clause-asks c = search rules

pub returns-clause-topology : goal.returns-clause-topology
returns-clause-topology c = search rules
