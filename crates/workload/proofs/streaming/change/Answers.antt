use Rattle.std.proofs.Common.{arith}
use Rattle.workload.proofs.Streams.{change_reads}
use Rattle.workload.proofs.streaming.change.Goals as goal

pub returns : goal.returns
returns c = change_reads c.args.depth c.args.reader.now c.opens.new.reader c.of_reader.new.reader c.of_reader-2.new.reader c.of_reader-3.new.reader c.take_end_array.new.self c.in_ok-family.family c.in_ok-key.key c.in_ok-mutation.mutation (omega arith) (grind arith) c.in_ok-family.ensures c.in_ok-key.ensures c.in_ok-mutation.ensures (grind arith)
