use Rattle.std.proofs.Common.{◌≡◌, ◌-◌, ◌++◌, ◌∷◌, [], arith, rules}
use Rattle.workload.proofs.Streams.{reads_shorter, one_more_so_far, all_so_far}
use Rattle.workload.proofs.streaming.list_in.Goals as goal

pub loop-alloc-smaller : goal.loop-alloc-smaller
loop-alloc-smaller g c =
    let same : c.take_end_array.new.self ≡ c.loop-alloc.reader = grind arith in
    rw (← same) (reads_shorter g.T.Shaped.stands_for (c.args.depth - 1) c.take_end_array.new.self c.of_reader.new.reader c.in_ok-item.item c.in_ok-item.ensures)

pub loop-alloc-preserved : goal.loop-alloc-preserved
loop-alloc-preserved g c =
    let same : c.take_end_array.new.self ≡ c.loop-alloc.reader = grind arith in
    let pushed : c.push.new.self.items ≡ c.loop-alloc.all.items ++ c.in_ok-item.item ∷ [] = search rules in
    rw pushed (one_more_so_far g.T.Shaped.stands_for (c.args.depth - 1) c.opens.new.reader c.loop-alloc.reader c.of_reader.new.reader c.loop-alloc.all.items c.in_ok-item.item c.loop-alloc.invariant (rw (← same) c.in_ok-item.ensures))

pub returns : goal.returns
returns g c =
    let same : c.if-len.all.items ≡ c.loop-alloc.all.items = search rules in
    rw same (all_so_far g.T.Shaped.stands_for c.args.depth c.args.reader.now c.opens.new.reader c.loop-alloc.reader c.take_end_array.new.self c.loop-alloc.all.items (omega arith) (grind arith) c.loop-alloc.invariant (grind arith))
