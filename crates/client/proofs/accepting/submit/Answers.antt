use Rattle.std.proofs.Common.{arith, rules}
use Rattle.std.proofs.lemmas.Grind.{common_steps}
use Rattle.client.proofs.accepting.submit.Goals as goal

pub returns-in-Err-clause-same : goal.returns-in-Err-clause-same
returns-in-Err-clause-same c = search rules

pub returns-in-Err-submitted-clause-refused : goal.returns-in-Err-submitted-clause-refused
returns-in-Err-submitted-clause-refused c = grind (arith, common_steps)
