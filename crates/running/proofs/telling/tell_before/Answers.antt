use Rattle.running.proofs.ToldMore.{on_way_done_at}
use Rattle.running.proofs.telling.tell_before.Goals as goal

pub returns-then-refusals-place-clause-told : goal.returns-then-refusals-place-clause-told
returns-then-refusals-place-clause-told c =
    (on_way_done_at c.args.node c.args.number c.args.seat.now.refusals c.refusals-refusals.result.now c.args.first c.loop-place.place c.args.transcript.now
    c.loop-place.transcript _ c.refusals-refusals.ensures c.loop-place-test.true c.if-refusals-place.true c.loop-place.invariant).0

pub returns-then-refusals-place-clause-left : goal.returns-then-refusals-place-clause-left
returns-then-refusals-place-clause-left c =
    (on_way_done_at c.args.node c.args.number c.args.seat.now.refusals c.refusals-refusals.result.now c.args.first c.loop-place.place c.args.transcript.now
    c.loop-place.transcript _ c.refusals-refusals.ensures c.loop-place-test.true c.if-refusals-place.true c.loop-place.invariant).1
