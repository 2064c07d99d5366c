-- Tests of the shards that are asked again.
use Rattle.std.proofs.Common.{◌≡◌, ℕ, ap, refl, List, [], ◌∷◌, map, ◌==◌}
use Rattle.std.specs.Prelude.{◌&&◌, ◌||◌}
use Rattle.std.specs.List.{list_any, list_all}
use Rattle.messages.specs.Session.{HeardNow, HeardAt}
use Rattle.messages.specs.Rounds.{late_nodes, was_heard_at}
use Rattle.read_txn.specs.States.{late_shard, asked_again}

any_shard : (time : ℕ) (first : List HeardNow) (node : ℕ) (nodes : List ℕ) → list_any (λ l. l.node == node) (map (late_shard time first) nodes) ≡ list_any (λ s. s == node) nodes
any_shard time first node [] = refl
any_shard time first node (n ∷ ns) = ap (λ b. (n == node) || b) (any_shard time first node ns)

-- a shard is among what is asked again exactly where it is late
pub any_again : (asked : List ℕ) (time : ℕ) (first : List HeardNow) (node : ℕ) → list_any (λ l. l.node == node) (asked_again asked time first) ≡ list_any (λ s. s == node) (late_nodes asked time first)
any_again asked time first node = any_shard time first node (late_nodes asked time first)

all_shards : (time : ℕ) (first : List HeardNow) (heard : List HeardAt) (nodes : List ℕ) → list_all (λ l. was_heard_at heard l.node) (map (late_shard time first) nodes) ≡ list_all (was_heard_at heard) nodes
all_shards time first heard [] = refl
all_shards time first heard (n ∷ ns) = ap (λ b. was_heard_at heard n && b) (all_shards time first heard ns)

-- all that are asked again have answered exactly where all late shards have
pub all_again : (asked : List ℕ) (time : ℕ) (first : List HeardNow) (heard : List HeardAt) → list_all (λ l. was_heard_at heard l.node) (asked_again asked time first) ≡ list_all (was_heard_at heard) (late_nodes asked time first)
all_again asked time first heard = all_shards time first heard (late_nodes asked time first)
