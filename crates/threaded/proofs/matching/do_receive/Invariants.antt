use Rattle.messages.specs.Topology.{node_count}
use Rattle.threaded.proofs.Looked.{DoFirstReceive}
use Rattle.threaded.proofs.matching.do_receive.Given as goal

abbrev pub invariant-loop-node : goal.invariant-loop-node
invariant-loop-node l = DoFirstReceive (node_count l.topology) l.seats l.node
