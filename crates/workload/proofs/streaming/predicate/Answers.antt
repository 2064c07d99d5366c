use Rattle.std.proofs.Common.{arith}
use Rattle.workload.specs.Script.{predicate_of}
use Rattle.workload.proofs.Streams.{member_reads}
use Rattle.workload.proofs.streaming.predicate.Goals as goal

pub returns-in-Ok-None : goal.returns-in-Ok-None
returns-in-Ok-None c = member_reads predicate_of c.args.depth c.args.reader.now c.opens_object.new.reader c.next_key.new.self c.predicate_under.new.reader c.next_key-2.new.self c.in-Ok-Some.name.now c.in_ok-predicate.predicate (omega arith) (c.opens_object.ensures (grind arith)) (grind arith) c.in_ok-predicate.ensures (grind arith)
