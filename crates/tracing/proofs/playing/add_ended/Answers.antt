use Rattle.std.proofs.Common.{sym, append-nil}
use Rattle.tracing.proofs.Tracings.{one_more_ended}
use Rattle.tracing.proofs.playing.add_ended.Goals as goal

pub loop-one-init : goal.loop-one-init
loop-one-init c = sym (append-nil c.args.transcript.now)

pub loop-one-preserved : goal.loop-one-preserved
loop-one-preserved c =
    one_more_ended c.args.transcript.now c.loop-one.transcript c.push.new.self c.args.completed.now c.loop-one.one-index c.one-item.result c.in_ok-entry.entry
    c.loop-one-test.true c.one-item.is c.loop-one.invariant c.in_ok-entry.ensures.ok c.in_ok-push.ensures.ok
