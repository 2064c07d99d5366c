-- The sessions of a world before their first events.
use Rattle.std.proofs.Common.{◌≡◌, ◌∙◌, ℕ, ◌+◌, List, length}
use Rattle.messages.specs.Topology.{TopologyValue, shard_count}
use Rattle.client.specs.declared.kept.SessionKept.{SessionKept}
use Rattle.world.specs.Run.{opening}
use Rattle.world.proofs.in_code.Beginning.{AreFirst}
use Rattle.present.specs.Present.{IsAt, AreSessions}

abbrev pub AtFirst : TopologyValue → ℕ → SessionKept → Type 0
AtFirst top i k = IsAt top (opening top).sessions (shard_count top + i) k

pub sessions_begin : (top : TopologyValue) (n : ℕ) (xs : List SessionKept) → n ≡ length top.homes → AreFirst (AtFirst top) n xs
    → (length xs ≡ length top.homes) × AreSessions top (shard_count top) (opening top).sessions xs
sessions_begin top n xs e are = (are.len ∙ e, are.each)
