use Rattle.std.proofs.Common.{◌≡◌, ◌≤◌, ◌-◌, map, drop}
use Rattle.peers.specs.Ends.{bytes_of}
use Rattle.peers.proofs.outbound.forget.Given as goal

abbrev pub invariant-loop-dropped : goal.invariant-loop-dropped
invariant-loop-dropped l = record {
  within : l.dropped ≤ l.count;
  kept : l.kept.items ≡ drop l.dropped l.fn.kept.items;
  bytes : l.bytes ≡ bytes_of (map (λ p. p.items) l.kept.items);
}

abbrev pub decreases-loop-dropped : goal.decreases-loop-dropped
decreases-loop-dropped l = l.count - l.dropped
