use Rattle.std.proofs.Common.{arith}
use Rattle.workload.proofs.Streams.{submit_reads}
use Rattle.workload.proofs.streaming.submit.Goals as goal

pub returns : goal.returns
returns c = rw c.session_node.ensures (submit_reads c.args.topology.now c.args.depth c.args.reader.now c.number_below.new.reader c.op.new.reader c.take_end_array.new.self c.in_ok-session.field-0 c.in_ok-op.op (rw (← c.homes.ensures.value) c.in_ok-session.ensures) c.in_ok-op.ensures (grind arith))
