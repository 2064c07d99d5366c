use Rattle.meeting.specs.Peers.{KeepsEnds}
use Rattle.meeting.proofs.peer.Peer.write.Given as goal

abbrev pub invariant-loop-parcel : goal.invariant-loop-parcel
invariant-loop-parcel l = KeepsEnds l.fn.self l.self
