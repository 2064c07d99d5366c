use Rattle.std.proofs.Common.{◌≡◌}
use Rattle.meeting.specs.Peers.{HasDropped}
use Rattle.meeting.proofs.peer.Peer.listen.Given as goal

abbrev pub invariant-loop-heard : goal.invariant-loop-heard
invariant-loop-heard l = record {
  dropped : HasDropped l.fn.self.outbound l.self.outbound;
  other : l.self.inbound ≡ l.fn.self.inbound;
}
