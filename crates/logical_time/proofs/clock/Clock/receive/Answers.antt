use Rattle.std.proofs.Common.{rules}
use Rattle.logical_time.proofs.clock.Clock.receive.Goals as goal

pub returns-clause-ok : goal.returns-clause-ok
returns-clause-ok c = search rules
