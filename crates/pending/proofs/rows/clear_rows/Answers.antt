use Rattle.std.proofs.Common.{List, None, subst, rules}
use Rattle.column_family.specs.declared.batch.Change.{Change}
use Rattle.pending.proofs.MarkedRows.{WillBe, one_is, is_later}
use Rattle.pending.proofs.rows.clear_rows.Goals as goal

pub loop-change-preserved-then-not-is_first : goal.loop-change-preserved-then-not-is_first
loop-change-preserved-then-not-is_first c =
    let split = subst (λ (cs : List Change). WillBe c.args.rows.now.entries c.loop-change.rows.entries cs c.args.changes.now c.args.txn None) c.in-Some.ensures.cases.0 c.loop-change.invariant in
    one_is c.args.rows.now.entries c.loop-change.rows.entries c.clear_row.new.rows.entries c.in-Some.change.now c.in-Some.later.now c.args.changes.now c.args.txn None split c.clear_row.ensures

pub loop-change-preserved : goal.loop-change-preserved
loop-change-preserved c =
    let split = subst (λ (cs : List Change). WillBe c.args.rows.now.entries c.loop-change.rows.entries cs c.args.changes.now c.args.txn None) c.in-Some.ensures.cases.0 c.loop-change.invariant in
    is_later c.args.rows.now.entries c.loop-change.rows.entries c.in-Some.change.now c.in-Some.later.now c.args.changes.now c.args.txn None (c.is_first.ensures (search rules)) split
