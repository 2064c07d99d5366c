use Rattle.std.proofs.Common.{List, ℕ, get_or, subst}
use Rattle.std.proofs.lemmas.List.{take_more, take_all}
use Rattle.doors.specs.Silence.{AreMarked}
use Rattle.doors.proofs.Silent.{marked_none, marked_more}
use Rattle.doors.proofs.silence.mark.Goals as goal

pub loop-place-init : goal.loop-place-init
loop-place-init c = marked_none c.args.time c.args.since.now.items

pub loop-place-preserved : goal.loop-place-preserved
loop-place-preserved c =
    let i = c.loop-place.place-index in
    marked_more c.args.time c.args.places.now i (get_or c.args.places.now i 0) c.args.since.now.items c.loop-place.since.items c.mark_one.new.since.items
    (take_more c.args.places.now i 0 c.loop-place-test.true) c.loop-place.invariant c.mark_one.ensures.here c.mark_one.ensures.others

pub returns : goal.returns
returns c = subst (λ (t : List ℕ). AreMarked c.args.time t c.args.since.now.items c.loop-place.since.items) (take_all c.loop-place.place-index c.args.places.now c.loop-place-test.false) c.loop-place.invariant
