use Rattle.std.proofs.Common.{arith}
use Rattle.workload.proofs.Streams.{delete_range_reads}
use Rattle.workload.proofs.streaming.delete_range.Goals as goal

pub returns : goal.returns
returns c = delete_range_reads c.args.depth c.args.reader.now c.of_reader.new.reader c.of_reader-2.new.reader c.take_end_array.new.self c.in_ok-start.start c.in_ok-finish.finish c.in_ok-start.ensures c.in_ok-finish.ensures (grind arith)
