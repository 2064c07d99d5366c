use Rattle.std.proofs.Common.{◌≡◌, ◌≤◌, length}
use Rattle.world.proofs.in_code.Beginning.{AreFirst, SitsFirst}
use Rattle.world.proofs.opening.open_stations.Given as goal

abbrev pub invariant-loop-session : goal.invariant-loop-session
invariant-loop-session l = (l.count ≡ length l.topology.homes) × (l.count ≤ l.stations.cap) × AreFirst (SitsFirst l.topology) l.session l.stations.items
