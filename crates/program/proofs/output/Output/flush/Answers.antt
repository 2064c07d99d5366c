use Rattle.std.proofs.Common.{rules}
use Rattle.program.proofs.output.Output.flush.Goals as goal

pub returns-in-Err-clause-failed : goal.returns-in-Err-clause-failed
returns-in-Err-clause-failed c = search rules
