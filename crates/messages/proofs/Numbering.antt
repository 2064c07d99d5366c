-- The numbers of nodes name each shard and each session once.
use Rattle.std.proofs.Common.{◌≡◌, ℕ, ◌+◌, ◌*◌, ◌-◌, ◌<◌, ◌≤◌, Bool, true, false, ap, length, arith, Some, None}
use Rattle.std.specs.Prelude.{if◌then◌else◌}
use Rattle.std.proofs.lemmas.Bool.Decides.{nat_tests}
use Rattle.std.proofs.lemmas.Nat.{div-mul-add, mod-mul-add, div-add-mod'}
use Rattle.std.proofs.Math.Nat.{mul-le-mul_right}
use Rattle.messages.specs.Topology.{TopologyValue, shard_count, shard_node, session_node, dc_of, shard_of, is_shard, is_session, session_of}

pub dc_of_shard : (top : TopologyValue) (dc shard : ℕ) → shard < top.shards → dc_of top (shard_node top dc shard) ≡ dc
dc_of_shard top dc shard lt = div-mul-add dc top.shards shard lt

pub number_of_shard : (top : TopologyValue) (dc shard : ℕ) → shard < top.shards → shard_of top (shard_node top dc shard) ≡ shard
number_of_shard top dc shard lt = mod-mul-add dc top.shards shard lt

pub shard_again : (top : TopologyValue) (node : ℕ) → shard_node top (dc_of top node) (shard_of top node) ≡ node
shard_again top node = div-add-mod' node top.shards

below : (d s S D : ℕ) → s < S → (d + 1) * S ≤ D → d * S + s < D
below d s S D lt le = omega arith

pub shard_is_shard : (top : TopologyValue) (dc shard : ℕ) → dc < top.dcs → shard < top.shards → is_shard top (shard_node top dc shard) ≡ true
shard_is_shard top dc shard d s =
    let le : (dc + 1) * top.shards ≤ top.dcs * top.shards = mul-le-mul_right top.shards (omega arith) in
    let lt : shard_node top dc shard < shard_count top = below dc shard top.shards (top.dcs * top.shards) s le in
    grind (arith, nat_tests)

pub session_again : (top : TopologyValue) (i : ℕ) → i < length top.homes → session_of top (session_node top i) ≡ Some i
session_again top i lt = go (is_session top (session_node top i)) (grind (arith, nat_tests))
  where
    go : (b : Bool) → b ≡ true → (if b then Some (session_node top i - shard_count top) else None) ≡ Some i
    go true e = ap Some (omega arith)
    go false e = absurd (cc)

pub session_is_no_shard : (top : TopologyValue) (i : ℕ) → is_shard top (session_node top i) ≡ false
session_is_no_shard top i = grind (arith, nat_tests)
