use Rattle.std.proofs.Common.{arith}
use Rattle.workload.proofs.Streams.{delete_reads}
use Rattle.workload.proofs.streaming.delete.Goals as goal

pub returns : goal.returns
returns c = delete_reads c.args.depth c.args.reader.now c.of_reader.new.reader c.take_end_array.new.self c.in_ok-name.name c.in_ok-name.ensures (grind arith)
