use Rattle.std.proofs.Common.{◌∙◌, ◌+◌, get_or, take, drop, refl}
use Rattle.std.proofs.lemmas.List.{take_more}
use Rattle.std.proofs.lemmas.Result.{err_from_is_err_and}
use Rattle.world.specs.World.{run_of}
use Rattle.workload.specs.Marks.{merged}
use Rattle.workload.proofs.Lists.{item_between}
use Rattle.workload.proofs.Since.{nothing_since, one_more_since, ended_since}
use Rattle.workload.proofs.simulating.play_some.Goals as goal

pub loop-event-init : goal.loop-event-init
loop-event-init c = record {
  topology = refl;
  marked = c.requires.marked;
  told = nothing_since c.args.world.now.top (run_of c.args.world.now) c.args.marks.now.items;
}

pub returns-in_err-play-clause-ends : goal.returns-in_err-play-clause-ends
returns-in_err-play-clause-ends c =
    let p = err_from_is_err_and c.from_residual.result c.from_residual.ensures.1 in
    let xs = c.args.events.now in
    let i = c.loop-event.event-index in
    let x = c.event-item.result in
    rw (p.1, p.2, ← item_between xs i x c.loop-event-test.true)
    (ended_since c.args.world.now.top (run_of c.args.world.now) c.args.marks.now.items (take i xs) (get_or xs i x) (drop (i + 1) xs) c.loop-event.world (merged c.loop-event.marks.items (run_of c.loop-event.world).transcript) c.in_err-play.field-0.0
    c.loop-event.invariant.topology c.loop-event.invariant.told (rw (← c.event-item.is) c.in_err-play.ensures.ends))

pub loop-event-preserved : goal.loop-event-preserved
loop-event-preserved c =
    let xs = c.args.events.now in
    let i = c.loop-event.event-index in
    let x = c.event-item.result in
    record {
      topology = c.in_ok-play.ensures.ok.2.topology ∙ c.loop-event.invariant.topology;
      marked = c.in_ok-play.ensures.marked;
      told =
          rw (take_more xs i x c.loop-event-test.true)
          (one_more_since c.args.world.now.top (run_of c.args.world.now) c.args.marks.now.items (take i xs) (get_or xs i x) c.loop-event.world c.play.new.world _ _
          c.loop-event.invariant.topology c.loop-event.invariant.told (rw (← c.event-item.is) c.in_ok-play.ensures.ok));
    }
