use Rattle.std.proofs.Common.{◌≡◌, ◌<◌, ◌++◌, ◌∷◌, [], length, arith, rules}
use Rattle.std.proofs.lemmas.List.{length-append}
use Rattle.workload.specs.Script.{event_of}
use Rattle.workload.proofs.Streams.{reads_shorter, one_more_so_far}
use Rattle.workload.proofs.along.next_events.Goals as goal

pub loop-alloc-smaller : goal.loop-alloc-smaller
loop-alloc-smaller c =
    let same : c.take_end_array.new.self ≡ c.loop-alloc.reader = grind arith in
    rw (← same) (reads_shorter (event_of c.args.topology.now) c.args.depth c.take_end_array.new.self c.event.new.reader c.in_ok-event.event c.in_ok-event.ensures)

pub loop-alloc-preserved : goal.loop-alloc-preserved
loop-alloc-preserved c =
    let same : c.take_end_array.new.self ≡ c.loop-alloc.reader = grind arith in
    let pushed : c.push.new.self.items ≡ c.loop-alloc.events.items ++ c.in_ok-event.event ∷ [] = search rules in
    let shorter : length c.event.new.reader < length c.loop-alloc.reader =
    rw (← same) (reads_shorter (event_of c.args.topology.now) c.args.depth c.take_end_array.new.self c.event.new.reader c.in_ok-event.event c.in_ok-event.ensures) in
    let count = length-append c.loop-alloc.events.items (c.in_ok-event.event ∷ []) in
    rw pushed (
      one_more_so_far (event_of c.args.topology.now) c.args.depth c.args.reader.now c.loop-alloc.reader c.event.new.reader c.loop-alloc.events.items c.in_ok-event.event c.loop-alloc.invariant.0 (rw (← same) c.in_ok-event.ensures),
      omega (arith, shorter, count, c.loop-alloc.invariant.1),
    )
