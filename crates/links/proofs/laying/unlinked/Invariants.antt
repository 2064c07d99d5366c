use Rattle.std.proofs.Common.{◌≡◌, [], ℕ, length}
use Rattle.links.specs.Mesh.{outgoing_at, incoming_at}
use Rattle.links.proofs.laying.unlinked.Given as goal

abbrev pub invariant-loop : goal.invariant-loop
invariant-loop l = record {
  count : length l.ends.items ≡ l.counter;
  outgoing : (node : ℕ) → outgoing_at l.ends.items node ≡ [];
  incoming : (node : ℕ) → incoming_at l.ends.items node ≡ [];
}
