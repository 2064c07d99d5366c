use Rattle.std.proofs.Common.{rules}
use Rattle.running.proofs.workers.Workers.one.Goals as goal

pub returns : goal.returns
returns c = search rules
