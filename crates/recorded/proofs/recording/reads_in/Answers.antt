use Rattle.recorded.specs.Recording.{answered_in}
use Rattle.recorded.proofs.Recordings.{one_more}
use Rattle.recorded.proofs.recording.reads_in.Goals as goal

pub loop-one-preserved : goal.loop-one-preserved
loop-one-preserved c =
    one_more answered_in c.args.completed.now c.loop-one.one-index c.one-item.result c.loop-one.reads.items c.add.new.reads.items c.in_ok-read.read
    c.loop-one-test.true c.one-item.is c.loop-one.invariant c.in_ok-read.ensures c.in_ok-add.ensures.ok
