use Rattle.std.proofs.Common.{arith}
use Rattle.workload.proofs.Members.{begins}
use Rattle.workload.proofs.streaming.begun.Goals as goal

pub returns : goal.returns
returns c = begins c.args.reader.now c.opens_object.new.reader c.header.new.reader c.in_ok-heading.heading c.topology_in.result (c.opens_object.ensures (grind arith)) c.in_ok-heading.ensures c.topology_in.ensures
