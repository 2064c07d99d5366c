use Rattle.std.proofs.lemmas.Result.{IfOk-weaker}
use Rattle.column_family.specs.Normal.{IsNormal, IsInOrderOf}
use Rattle.column_family.proofs.Order.{kept_normal, kept_order}
use Rattle.column_family.proofs.normalizing.normal.Goals as goal

pub returns-clause-form : goal.returns-clause-form
returns-clause-form c = IfOk-weaker c.kept_changes.result _ (λ kept. IsNormal kept) (kept_normal c.args.batch.now) c.kept_changes.ensures.exact

pub returns-clause-order : goal.returns-clause-order
returns-clause-order c = IfOk-weaker c.kept_changes.result _ (λ kept. IsInOrderOf c.args.batch.now kept) (kept_order c.args.batch.now) c.kept_changes.ensures.exact
