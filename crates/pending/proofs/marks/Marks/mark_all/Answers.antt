use Rattle.std.proofs.Common.{List, Some, subst, rules}
use Rattle.column_family.specs.declared.batch.Change.{Change}
use Rattle.pending.proofs.MarkedRows.{WillBe, AreAmong, one_is, is_later, still_among}
use Rattle.pending.proofs.marks.Marks.mark_all.Goals as goal

pub loop-change-preserved-in_ok-mark_or_clear : goal.loop-change-preserved-in_ok-mark_or_clear
loop-change-preserved-in_ok-mark_or_clear c =
    let split = subst (λ (cs : List Change). WillBe c.args.self.now c.loop-change.self cs c.args.changes.now c.args.txn (Some c.args.time)) c.in-Some.ensures.cases.0 c.loop-change.invariant.0 in
    let among = subst (λ (cs : List Change). AreAmong cs c.args.changes.now) c.in-Some.ensures.cases.0 c.loop-change.invariant.1 in (
      one_is c.args.self.now c.loop-change.self c.mark_or_clear.new.self c.in-Some.change.now c.in-Some.later.now c.args.changes.now c.args.txn (Some c.args.time) split c.in_ok-mark_or_clear.ensures.ok,
      still_among c.in-Some.change.now c.in-Some.later.now c.args.changes.now among,
    )

pub loop-change-preserved : goal.loop-change-preserved
loop-change-preserved c =
    let split = subst (λ (cs : List Change). WillBe c.args.self.now c.loop-change.self cs c.args.changes.now c.args.txn (Some c.args.time)) c.in-Some.ensures.cases.0 c.loop-change.invariant.0 in
    let among = subst (λ (cs : List Change). AreAmong cs c.args.changes.now) c.in-Some.ensures.cases.0 c.loop-change.invariant.1 in (
      is_later c.args.self.now c.loop-change.self c.in-Some.change.now c.in-Some.later.now c.args.changes.now c.args.txn (Some c.args.time) (c.is_first.ensures (search rules)) split,
      still_among c.in-Some.change.now c.in-Some.later.now c.args.changes.now among,
    )
