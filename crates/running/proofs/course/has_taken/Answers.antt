use Rattle.std.proofs.Common.{◌≡◌, ◌≤◌, List, length, slice_get, take, Some, refl, sym, subst}
use Rattle.world.proofs.lists.Replacing.{item_at}
use Rattle.messages.specs.Actors.{opening_home}
use Rattle.running.specs.Asked.{asked_in}
use Rattle.running.specs.Course.{HasCome}
use Rattle.running.proofs.AskedMore.{asked_more}
use Rattle.running.proofs.Exact.{stop_tells, end_tells}
use Rattle.running.proofs.course.has_taken.Goals as goal

pub loop-place-preserved : goal.loop-place-preserved
loop-place-preserved c =
    let s = c.args.script.now in
    let place = c.loop-place.place in
    let x = c.index-events-place.result in
    let at : slice_get s.events place ≡ Some x =
    subst (λ l. slice_get l place ≡ Some x) c.as_slice-events.ensures (item_at c.as_slice-events.result.now place x c.loop-place-test.true c.index-events-place.is) in
    record {
      within = c.if-not-goes_on.ensures.within;
      come =
          subst (λ l. HasCome s.topology (opening_home s.topology c.args.node) c.args.seat.now c.goes_on.new.self l) (sym (asked_more c.args.node s.events place x at))
          (c.if-not-goes_on.ensures.came (opening_home s.topology c.args.node) (asked_in c.args.node (take place s.events)) c.loop-place.invariant.come refl);
    }

pub returns-then-not-goes_on : goal.returns-then-not-goes_on
returns-then-not-goes_on c =
    let s = c.args.script.now in
    let place = c.loop-place.place in
    let x = c.index-events-place.result in
    let at : slice_get s.events place ≡ Some x =
    subst (λ l. slice_get l place ≡ Some x) c.as_slice-events.ensures (item_at c.as_slice-events.result.now place x c.loop-place-test.true c.index-events-place.is) in
    let stopped = c.if-not-goes_on.ensures.stopped (opening_home s.topology c.args.node) (asked_in c.args.node (take place s.events)) c.loop-place.invariant.come refl in
    (λ no. absurd (cc), λ taken. absurd (stop_tells s c.args.node c.args.seat.now place x at stopped taken))

pub returns : goal.returns
returns c =
    let s = c.args.script.now in
    let place = c.loop-place.place in
    let le : length s.events ≤ place = subst (λ (l : List _). length l ≤ place) c.as_slice-events.ensures c.loop-place-test.false in
    end_tells s c.args.node c.args.seat.now place le c.is_whole.result
    (c.is_whole.ensures s.topology (opening_home s.topology c.args.node) (asked_in c.args.node (take place s.events)) c.loop-place.invariant.come)
