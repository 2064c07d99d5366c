use Rattle.audit.proofs.WrongReads.{told_more}
use Rattle.audit.proofs.judging.tell_each.Goals as goal

pub loop-place-preserved : goal.loop-place-preserved
loop-place-preserved c =
    told_more c.args.laid.now c.args.reads.now c.loop-place.place c.index-reads-place.result c.loop-place.found.items c.note.new.found.items
    c.loop-place-test.true c.index-reads-place.is c.loop-place.invariant c.in_ok-note.ensures.ok
