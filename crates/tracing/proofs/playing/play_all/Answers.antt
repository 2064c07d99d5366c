use Rattle.std.proofs.Common.{◌≡◌, ◌∙◌, ◌+◌, inl, inr, get_or, take, drop, refl}
use Rattle.std.proofs.lemmas.List.{take_more}
use Rattle.std.proofs.lemmas.Result.{err_from_is_err_and}
use Rattle.workload.proofs.Lists.{item_between}
use Rattle.workload.proofs.Plays.{none_played, more_played, ended_there}
use Rattle.tracing.proofs.Tracings.{ends_there}
use Rattle.tracing.proofs.playing.play_all.Goals as goal

pub loop-event-init : goal.loop-event-init
loop-event-init c = record {
  topology = refl;
  told = none_played c.args.world.now c.new-transcript.result c.requires.opening c.new-transcript.ensures;
}

pub returns-in_err-play-clause-ends : goal.returns-in_err-play-clause-ends
returns-in_err-play-clause-ends c =
    let p = err_from_is_err_and c.from_residual.result c.from_residual.ensures.1 in
    let xs = c.args.events.now in
    let i = c.loop-event.event-index in
    let x = c.event-item.result in
    rw (p.1, p.2, ← item_between xs i x c.loop-event-test.true)
    (ends_there c.args.world.now.top (take i xs) (get_or xs i x) (drop (i + 1) xs) c.loop-event.world c.loop-event.transcript c.in_err-play.field-0.0
    c.loop-event.invariant.topology c.loop-event.invariant.told (rw (← c.event-item.is) c.in_err-play.ensures.ends))

pub loop-event-preserved : goal.loop-event-preserved
loop-event-preserved c =
    let xs = c.args.events.now in
    let i = c.loop-event.event-index in
    let x = c.event-item.result in
    record {
      topology = c.in_ok-play.ensures.ok.2.topology ∙ c.loop-event.invariant.topology;
      told =
          rw (take_more xs i x c.loop-event-test.true)
          (more_played c.args.world.now.top (take i xs) (get_or xs i x) c.loop-event.world c.play.new.world _ _
          c.loop-event.invariant.topology c.loop-event.invariant.told (rw (← c.event-item.is) c.in_ok-play.ensures.ok));
    }
