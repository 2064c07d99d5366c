use Rattle.std.proofs.Common.{arith}
use Rattle.workload.specs.Script.{op_of}
use Rattle.workload.proofs.Streams.{member_reads}
use Rattle.workload.proofs.streaming.op.Goals as goal

pub returns-in-Ok-None : goal.returns-in-Ok-None
returns-in-Ok-None c = member_reads (op_of c.args.topology.now) c.args.depth c.args.reader.now c.opens_object.new.reader c.next_key.new.self c.op_under.new.reader c.next_key-2.new.self c.in-Ok-Some.name.now c.in_ok-op.op (omega arith) (c.opens_object.ensures (grind arith)) (grind arith) c.in_ok-op.ensures (grind arith)
