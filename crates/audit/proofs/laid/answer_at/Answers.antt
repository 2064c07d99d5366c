use Rattle.std.proofs.Common.{rules}
use Rattle.audit.proofs.laid.answer_at.Goals as goal

pub returns-clause-ok : goal.returns-clause-ok
returns-clause-ok c = λ h laid. search (rules, c.rows_at.ensures.ok h laid)
