use Rattle.meeting.specs.Peers.{KeepsEnds}
use Rattle.meeting.proofs.peer.Peer.next.Given as goal

abbrev pub invariant-loop-said : goal.invariant-loop-said
invariant-loop-said l = KeepsEnds l.fn.self l.self
