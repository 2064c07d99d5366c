use Rattle.std.proofs.Common.{rules}
use Rattle.dependencies.proofs.askers.Askers.new.Goals as goal

pub returns : goal.returns
returns c = search rules
