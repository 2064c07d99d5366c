use Rattle.std.proofs.Common.{arith}
use Rattle.workload.proofs.Streams.{insert_reads}
use Rattle.workload.proofs.streaming.insert.Goals as goal

pub returns : goal.returns
returns c = insert_reads c.args.depth c.args.reader.now c.of_reader.new.reader c.of_reader-2.new.reader c.take_end_array.new.self c.in_ok-name.name c.in_ok-value.value c.in_ok-name.ensures c.in_ok-value.ensures (grind arith)
