use Rattle.std.proofs.Common.{ap, ◌∙◌, sym}
use Rattle.column_family.proofs.UpTo.{up_to_kept, up_to_left}
use Rattle.column_family.proofs.newest.up_to.Goals as goal
use Rattle.column_family.proofs.newest.up_to.Goals.{then-is_committed+in_ok-copy_of+in_ok-push, else-is_committed}

pub loop-entry-preserved : goal.loop-entry-preserved
loop-entry-preserved c =
    elim c.if-is_committed.branch [
      | then-is_committed+in_ok-copy_of+in_ok-push w ↦
          ap (λ v. v.items) w.kept-is
          ∙ (w.in_ok-push.ensures.items
          ∙ up_to_kept c.args.time c.args.history.now c.loop-entry.kept.items c.loop-entry.entry-index c.entry-item.result w.in_ok-copy_of.field-0
          c.loop-entry-test.true c.entry-item.is (sym c.is_committed.ensures ∙ w.if-is_committed.true) c.loop-entry.invariant w.in_ok-copy_of.ensures)
      | else-is_committed w ↦
          ap (λ v. v.items) w.kept-is
          ∙ up_to_left c.args.time c.args.history.now c.loop-entry.kept.items c.loop-entry.entry-index c.entry-item.result
          c.loop-entry-test.true c.entry-item.is (sym c.is_committed.ensures ∙ w.if-is_committed.false) c.loop-entry.invariant
    ]
