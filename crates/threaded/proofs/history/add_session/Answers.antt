use Rattle.std.proofs.Common.{◌∙◌, ◌≤◌, ◌<◌, ◌++◌, sym, ap, subst, length, rules}
use Rattle.std.specs.Prelude.{filter_map}
use Rattle.world.specs.Asked.{entry_of}
use Rattle.world.proofs.lists.Replacing.{item_at}
use Rattle.threaded.specs.Asking.{writes_from}
use Rattle.threaded.proofs.AskedFor.{few_ops, no_op, count_more, told_more}
use Rattle.threaded.proofs.history.add_session.Goals.{in-Some+in_ok-add_of, in_default}
use Rattle.threaded.proofs.history.add_session.Goals as goal

pub overflow_add-number : goal.overflow_add-number
overflow_add-number c =
    let le : c.loop-event.number ≤ c.loop-event.event-index =
    subst (λ n. n ≤ c.loop-event.event-index) (sym c.loop-event.invariant.0) (few_ops c.args.journal.now c.loop-event.event-index) in
    let lt : c.loop-event.event-index < length c.args.journal.now = c.loop-event-test.true in
    search (rules, le, lt)

pub loop-event-preserved : goal.loop-event-preserved
loop-event-preserved c =
    let journal = c.args.journal.now in
    let k = c.loop-event.event-index in
    let item = c.event-item.result in
    let at = item_at journal k item c.loop-event-test.true c.event-item.is in
    let inv = c.loop-event.invariant in
    elim c.match-submitted.branch [
      | in-Some+in_ok-add_of w ↦ (
        w.number-is ∙ count_more journal k item at c.loop-event.number w.in-Some.op.now (sym w.in-Some.ensures) inv.0,
        λ top states asked.
            w.history-is
            ∙ told_more (entry_of top states c.args.home.dc) c.args.session journal k c.loop-event.number item w.in-Some.op.now c.args.history.now c.loop-event.history
            w.add_of.new.history at (sym w.in-Some.ensures) inv.0 (inv.1 top states asked) (w.in_ok-add_of.ensures.ok top states asked),
      )
      | in_default w ↦
          let same = no_op journal k item at (sym w.in_default.ensures) in (
            w.number-is ∙ inv.0 ∙ ap (λ (l : _). length l) (sym same),
            λ top states asked.
                w.history-is ∙ inv.1 top states asked
                ∙ ap (λ l. c.args.history.now ++ filter_map (entry_of top states c.args.home.dc) (writes_from c.args.session 0 l)) (sym same),
          )
    ]
