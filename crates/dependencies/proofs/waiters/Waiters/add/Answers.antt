use Rattle.std.proofs.Common.{rules}
use Rattle.dependencies.proofs.waiters.Waiters.add.Goals as goal

pub returns-then-has-clause-known : goal.returns-then-has-clause-known
returns-then-has-clause-known c = search rules

pub returns-in_err-push-clause-known : goal.returns-in_err-push-clause-known
returns-in_err-push-clause-known c = search rules

pub returns-clause-ok : goal.returns-clause-ok
returns-clause-ok c = search rules
