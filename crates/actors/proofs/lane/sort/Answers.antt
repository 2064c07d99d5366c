use Rattle.std.proofs.Common.{arith, ◌≡◌, ◌<◌, length, slice_get, get_or, Some, rules}
use Rattle.std.proofs.lemmas.Grind.{common_steps}
use Rattle.actors.specs.Ways.{IsFirstWay}
use Rattle.actors.proofs.Lists.{here}
use Rattle.actors.proofs.Lanes.{taken_one}
use Rattle.actors.proofs.lane.sort.Goals as goal

pub loop-number-preserved-in-Continue-1 : goal.loop-number-preserved-in-Continue-1
loop-number-preserved-in-Continue-1 c =
    let e = c.index-as_slice-number.result in
    let d = c.index_mut.result.now in
    let lt : c.loop-number.number < length c.loop-number.outbox.sent = search rules in
    let is : e ≡ get_or c.loop-number.outbox.sent c.loop-number.number e = search rules in
    let at : slice_get c.loop-number.outbox.sent c.loop-number.number ≡ Some e = here c.loop-number.outbox.sent c.loop-number.number e lt is in
    let way : IsFirstWay e.to c.loop-number.lanes.items c.in-Some.place = search rules in
    taken_one c.loop-number.lanes.items _ c.loop-number.outbox.sent _ c.take.new.outbox.sent c.loop-number.number c.in-Some.place d c.take.new.self e
    c.loop-number.invariant lt at way c.index_mut.ensures.value c.take.ensures.to c.take.ensures.sent (c.in_ok-take-in-Some.ensures.waiting e at) c.in_ok-take-in-Some.ensures.rest

pub loop-number-smaller-in-Continue-1 : goal.loop-number-smaller-in-Continue-1
loop-number-smaller-in-Continue-1 c = grind (arith, common_steps)

pub returns-in_err-take-in-Some-clause-ends : goal.returns-in_err-take-in-Some-clause-ends
returns-in_err-take-in-Some-clause-ends c = grind (arith, common_steps)

pub returns-in_err-take-in-Some-clause-rings : goal.returns-in_err-take-in-Some-clause-rings
returns-in_err-take-in-Some-clause-rings c = grind (arith, common_steps)

pub returns-in_err-take-in-Some-clause-whole : goal.returns-in_err-take-in-Some-clause-whole
returns-in_err-take-in-Some-clause-whole c = grind (arith, common_steps)

pub returns-in_err-take-in-Some-clause-count : goal.returns-in_err-take-in-Some-clause-count
returns-in_err-take-in-Some-clause-count c = grind (arith, common_steps)

pub loop-number-preserved : goal.loop-number-preserved
loop-number-preserved c = grind (arith, common_steps)

pub returns-clause-sorted : goal.returns-clause-sorted
returns-clause-sorted c = grind (arith, common_steps)
