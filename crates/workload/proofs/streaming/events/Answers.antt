use Rattle.std.proofs.Common.{◌≡◌, ◌-◌, ◌++◌, ◌∷◌, [], arith, rules}
use Rattle.workload.specs.Script.{event_of}
use Rattle.workload.proofs.Streams.{reads_shorter, one_more_so_far, all_so_far}
use Rattle.workload.proofs.streaming.events.Goals as goal

pub loop-alloc-smaller : goal.loop-alloc-smaller
loop-alloc-smaller c =
    let same : c.take_end_array.new.self ≡ c.loop-alloc.reader = grind arith in
    rw (← same) (reads_shorter (event_of c.args.topology.now) (c.args.depth - 1) c.take_end_array.new.self c.event.new.reader c.in_ok-event.event c.in_ok-event.ensures)

pub loop-alloc-preserved : goal.loop-alloc-preserved
loop-alloc-preserved c =
    let same : c.take_end_array.new.self ≡ c.loop-alloc.reader = grind arith in
    let pushed : c.push.new.self.items ≡ c.loop-alloc.all.items ++ c.in_ok-event.event ∷ [] = search rules in
    rw pushed (one_more_so_far (event_of c.args.topology.now) (c.args.depth - 1) c.opens.new.reader c.loop-alloc.reader c.event.new.reader c.loop-alloc.all.items c.in_ok-event.event c.loop-alloc.invariant (rw (← same) c.in_ok-event.ensures))

pub returns : goal.returns
returns c = all_so_far (event_of c.args.topology.now) c.args.depth c.args.reader.now c.opens.new.reader c.loop-alloc.reader c.take_end_array.new.self c.loop-alloc.all.items (omega arith) (grind arith) c.loop-alloc.invariant (grind arith)
