use Rattle.std.proofs.Common.{arith}
use Rattle.workload.proofs.Members.{tells}
use Rattle.workload.proofs.heading.topology_in.Goals as goal

pub returns : goal.returns
returns c = tells c.args.heading c.in_ok-dcs.dcs c.in_ok-shards.shards c.in_ok-schema.schema c.in_ok-homes.homes c.topology_among.result (grind arith) (grind arith) (grind arith) (grind arith) c.topology_among.ensures
