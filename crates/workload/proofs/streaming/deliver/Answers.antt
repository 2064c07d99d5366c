use Rattle.std.proofs.Common.{arith}
use Rattle.workload.proofs.Streams.{deliver_reads}
use Rattle.workload.proofs.streaming.deliver.Goals as goal

pub returns : goal.returns
returns c = deliver_reads c.args.depth c.args.reader.now c.of_reader.new.reader c.take_end_array.new.self c.in_ok-number.number c.in_ok-number.ensures (grind arith)
