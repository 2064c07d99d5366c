use Rattle.std.proofs.Common.{length, ap}
use Rattle.std.proofs.lemmas.Result.{on_ok_weaker}
use Rattle.workload.proofs.Plays.{no_fewer_ended}
use Rattle.tracing.proofs.Tracings.{entries_added}
use Rattle.tracing.proofs.playing.play.Goals as goal

pub add_since-requires : goal.add_since-requires
add_since-requires c = rw c.transcript-before.ensures.listed (no_fewer_ended c.args.world.now c.happen.new.world c.args.event.now _ c.in_ok-refusal.ensures.ok)

pub returns-clause-ok : goal.returns-clause-ok
returns-clause-ok c =
    on_ok_weaker c.add_since.result
    (entries_added c.args.world.now c.happen.new.world c.args.event.now c.in_ok-refusal.refusal (length c.transcript-before.result.now) c.args.transcript.now
    c.add_refusal.new.transcript c.add_since.new.transcript c.in_ok-refusal.ensures.ok (ap length c.transcript-before.ensures.listed) c.in_ok-add_refusal.ensures.ok)
    c.add_since.ensures.ok
