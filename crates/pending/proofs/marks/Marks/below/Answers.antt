use Rattle.std.proofs.Common.{subst, IfOk}
use Rattle.pending.specs.Marks.{MarkList, IsBelow, time_at}
use Rattle.pending.proofs.marks.Marks.below.Goals as goal

pub returns-clause-ok : goal.returns-clause-ok
returns-clause-ok c =
    subst (λ (ms : MarkList). IfOk c.below_in.result (λ txns. IsBelow (time_at ms c.args.row.now) c.args.time txns.items)) c.self.view_is c.below_in.ensures.ok
