use Rattle.std.proofs.Common.{◌≡◌, length}
use Rattle.messages.specs.Topology.{node_count}
use Rattle.links.proofs.LaidFrom.{AreLaidByAll}
use Rattle.links.proofs.laying.mesh.Given as goal

abbrev pub invariant-loop-from : goal.invariant-loop-from
invariant-loop-from l = record {
  count : length l.ends.items ≡ node_count l.topology;
  laid : AreLaidByAll l.topology l.capacity l.from l.ends.items;
}
