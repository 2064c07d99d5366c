use Rattle.std.proofs.Common.{rules}
use Rattle.program.proofs.input.Input.new.Goals as goal

pub returns-in-Err-clause-failed : goal.returns-in-Err-clause-failed
returns-in-Err-clause-failed c = search rules
