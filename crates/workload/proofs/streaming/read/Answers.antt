use Rattle.std.proofs.Common.{arith}
use Rattle.workload.proofs.Streams.{read_reads}
use Rattle.workload.proofs.streaming.read.Goals as goal

pub returns-in-Ok : goal.returns-in-Ok
returns-in-Ok c = rw c.in-Ok.ensures (read_reads c.args.depth c.args.reader.now c.opens.new.reader c.of_reader.new.reader c.of_reader-2.new.reader c.of_reader-3.new.reader c.take_end_array.new.self c.in_ok-family.family c.in_ok-keys.keys c.in_ok-predicate.predicate (omega arith) (grind arith) c.in_ok-family.ensures c.in_ok-keys.ensures c.in_ok-predicate.ensures (grind arith))
