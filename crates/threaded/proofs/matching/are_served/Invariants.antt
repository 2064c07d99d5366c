use Rattle.std.specs.Prelude.{◌≡◌, ◌↔◌, true}
use Rattle.messages.specs.Topology.{node_count}
use Rattle.threaded.specs.Matching.{AreKept}
use Rattle.threaded.proofs.Counting.{AreFirstServed}
use Rattle.threaded.proofs.matching.are_served.Given as goal

abbrev pub invariant-loop-node : goal.invariant-loop-node
invariant-loop-node l = ((l.all ≡ true) ↔ AreFirstServed (node_count l.topology) l.seats l.node) × AreKept l.node l.seats
