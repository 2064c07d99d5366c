use Rattle.std.proofs.Common.{subst, IfOk}
use Rattle.pending.specs.Marks.{MarkList}
use Rattle.pending.specs.Marked.{AreBelow}
use Rattle.pending.proofs.marks.Marks.below_rows.Goals as goal

pub returns-clause-ok : goal.returns-clause-ok
returns-clause-ok c =
    subst (λ (ms : MarkList). IfOk c.below_rows.result (λ txns. AreBelow ms c.args.rows.now c.args.time txns.items)) c.self.view_is c.below_rows.ensures.ok
