use Rattle.std.proofs.Common.{◌≡◌, ◌≤◌, List, length, slice_get, Some, subst}
use Rattle.world.proofs.lists.Replacing.{item_at}
use Rattle.running.proofs.ToldMore.{session_end, session_more, then_ok}
use Rattle.running.proofs.telling.tell_session.Goals as goal

pub loop-place-preserved : goal.loop-place-preserved
loop-place-preserved c =
    let place = c.loop-place.place in
    let o = c.index-outcomes-place.result in
    let at : slice_get c.args.seat.now.outcomes place ≡ Some o =
    subst (λ l. slice_get l place ≡ Some o) c.outcomes-outcomes.ensures (item_at c.outcomes-outcomes.result.now place o c.loop-place-test.true c.index-outcomes-place.is) in
    session_more c.args.node c.args.seat.now.outcomes c.args.seat.now.refusals place c.loop-place.told c.in_ok-told.told c.args.transcript.now c.loop-place.transcript
    c.tell_outcome.new.transcript o at c.in_ok-told.ensures.left c.in_ok-told.ensures.told c.loop-place.invariant

pub returns-clause-told : goal.returns-clause-told
returns-clause-told c =
    let le = subst (λ (l : List _). length l ≤ c.loop-place.place) c.outcomes-outcomes.ensures c.loop-place-test.false in
    then_ok c.tell_left.result
    (λ is.
    session_end c.args.node c.args.seat.now.outcomes c.args.seat.now.refusals c.loop-place.place c.loop-place.told c.args.transcript.now c.loop-place.transcript
    c.tell_left.new.transcript le is c.loop-place.invariant)
    c.tell_left.ensures.told
