use Rattle.std.proofs.Common.{List, ℕ, get_or, subst}
use Rattle.std.proofs.lemmas.List.{take_more, take_all}
use Rattle.site_port.specs.Port.{AreLeft}
use Rattle.site_port.proofs.Gone.{left_none, left_more}
use Rattle.site_port.proofs.leaving.leave_all.Goals as goal

pub loop-place-init : goal.loop-place-init
loop-place-init c = left_none c.args.waiting.now.items

pub loop-place-preserved : goal.loop-place-preserved
loop-place-preserved c =
    let i = c.loop-place.place-index in
    left_more c.args.places.now i (get_or c.args.places.now i 0) c.args.waiting.now.items c.loop-place.waiting.items c.leave_at.new.waiting.items
    (take_more c.args.places.now i 0 c.loop-place-test.true) c.loop-place.invariant c.leave_at.ensures.count c.leave_at.ensures.here c.leave_at.ensures.others

pub returns : goal.returns
returns c = subst (λ (t : List ℕ). AreLeft t c.args.waiting.now.items c.loop-place.waiting.items) (take_all c.loop-place.place-index c.args.places.now c.loop-place-test.false) c.loop-place.invariant
