use Rattle.std.proofs.Common.{arith}
use Rattle.workload.proofs.Streams.{drain_reads}
use Rattle.workload.proofs.streaming.drain.Goals as goal

pub returns : goal.returns
returns c = drain_reads c.args.depth c.args.reader.now c.take_end_array.new.self (grind arith)
