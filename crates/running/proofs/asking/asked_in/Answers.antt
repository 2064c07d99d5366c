use Rattle.running.proofs.AskedMore.{asked_next, asked_end}
use Rattle.running.proofs.asking.asked_in.Goals as goal

pub loop-place-preserved : goal.loop-place-preserved
loop-place-preserved c =
    asked_next c.args.node c.args.events.now c.loop-place.place c.index-events-place.result c.loop-place.list.items c.add_asked.new.list.items c.loop-place-test.true
    c.index-events-place.is c.loop-place.invariant c.in_ok-add_asked.ensures.ok

pub returns-clause-ok : goal.returns-clause-ok
returns-clause-ok c = asked_end c.args.node c.args.events.now c.loop-place.place c.loop-place.list.items c.loop-place-test.false c.loop-place.invariant
