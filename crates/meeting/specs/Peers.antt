-- What is known here of other sites.
use Rattle.std.specs.Prelude.{◌≡◌, ◌+◌, ◌-◌, ◌≤◌, ℕ, List, Bool, nat_lt, drop}
use Rattle.std.specs.List.{list_any}
use Rattle.peers.specs.Ends.{OutboundValue, bytes_of, next_of}
use Rattle.meeting.specs.declared.peer.Peer.{Peer}

-- whether more bytes than these wait for one of them
abbrev pub is_one_behind : List Peer → ℕ → Bool
is_one_behind peers most = list_any (λ p. nat_lt most (bytes_of p.outbound.kept)) peers

-- the ends of both links stay: what is kept for the site, and what is wanted next from it
abbrev pub KeepsEnds : Peer → Peer → Type 0
KeepsEnds p q = (q.outbound ≡ p.outbound) × (q.inbound ≡ p.inbound)

-- one parcel was taken, which had the number that was wanted; nothing else changed at the ends
abbrev pub HasTaken : Peer → Peer → Type 0
HasTaken p q = (q.outbound ≡ p.outbound) × (q.inbound ≡ p.inbound + 1)

-- of what was kept some of the first are kept no longer; all others are, under their numbers
abbrev pub HasDropped : OutboundValue → OutboundValue → Type 0
HasDropped o u = (o.first ≤ u.first) × (u.first ≤ next_of o) × (u.kept ≡ drop (u.first - o.first) o.kept)
