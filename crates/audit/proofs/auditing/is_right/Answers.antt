use Rattle.audit.proofs.Same.{compared}
use Rattle.audit.proofs.auditing.is_right.Goals as goal

pub returns-clause-ok : goal.returns-clause-ok
returns-clause-ok c = compared c.same_answer.result c.args.laid.now c.args.read.now c.args.time c.args.answer.now _ c.same_answer.ensures c.in_ok-meaning.ensures.ok
