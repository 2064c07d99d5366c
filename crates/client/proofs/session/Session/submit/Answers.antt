use Rattle.std.proofs.Common.{arith}
use Rattle.client.proofs.Submitted.{submitted, submit_refused}
use Rattle.client.proofs.session.Session.submit.Goals as goal

pub returns-clause-step : goal.returns-clause-step
returns-clause-step c = grind (arith, submitted, submit_refused)

pub returns-clause-refused : goal.returns-clause-refused
returns-clause-refused c = grind (arith, submitted, submit_refused)
