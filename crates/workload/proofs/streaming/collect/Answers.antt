use Rattle.std.proofs.Common.{arith}
use Rattle.workload.proofs.Streams.{collect_reads}
use Rattle.workload.proofs.streaming.collect.Goals as goal

pub returns : goal.returns
returns c = rw c.new.ensures (collect_reads c.args.topology.now c.args.depth c.args.reader.now c.number_below.new.reader c.of_reader.new.reader c.take_end_array.new.self c.in_ok-shard.field-0 c.in_ok-time.time (rw (← c.shard_count.ensures.value, ← c.from-end.ensures) c.in_ok-shard.ensures) c.in_ok-time.ensures (grind arith))
