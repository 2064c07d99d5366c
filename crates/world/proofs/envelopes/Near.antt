-- Which shards stand for a batch in each data centre.
use Rattle.std.proofs.Common.{◌≡◌, ℕ, ◌<◌, not, ◌&&◌, List, [], ◌∷◌, sym, ap, ◌∙◌, arith, sum, eq-eqb}
use Rattle.std.specs.Prelude.{◌==◌, Contains}
use Rattle.std.specs.List.{range_with_len}
use Rattle.std.proofs.lemmas.Bool.{false≢true, and_parts}
use Rattle.std.proofs.lemmas.Nat.{mod_below}
use Rattle.column_family.specs.declared.batch.Change.{Change}
use Rattle.column_family.specs.Normal.{IsNormal}
use Rattle.column_family.specs.Places.{normal_of}
use Rattle.column_family.proofs.Order.{normal_form}
use Rattle.planner.specs.Plan.{part_for, is_touched, coordinator_of, cohorts_of}
use Rattle.planner.proofs.Parts.{normal_part}
use Rattle.messages.specs.Topology.{TopologyValue, dc_of, shard_of, shard_node}
use Rattle.messages.proofs.Numbering.{dc_of_shard, number_of_shard}
use Rattle.planner.specs.Partition.{shard_of as shard_of_key}
use Rattle.world.proofs.lists.Members.{filter_contains, within_range}
use Rattle.world.proofs.safety.Facts.{near, lead, part_on}

-- ## Numbers within a data centre

pub key_below : (shards : ℕ) (key : List ℕ) → 0 < shards → shard_of_key shards key < shards
key_below shards key some = mod_below (sum key) shards some

pub coordinator_below : (shards : ℕ) (batch : List Change) → 0 < shards → coordinator_of shards batch < shards
coordinator_below shards [] some = some
coordinator_below shards (c ∷ cs) some = key_below shards c.row.key some

pub cohort_below : (shards : ℕ) (batch : List Change) (c : ℕ) → Contains (cohorts_of shards batch) c → c < shards
cohort_below shards batch c m =
    let lt = (within_range 0 shards c (filter_contains (λ s. not (s == coordinator_of shards batch) && is_touched shards batch s) (range_with_len 0 shards) c m).0).1 in omega arith

-- a cohort isn't the coordinator
pub cohort_other : (shards : ℕ) (batch : List Change) (c : ℕ) → Contains (cohorts_of shards batch) c → c ≡ coordinator_of shards batch → ⊥
cohort_other shards batch c m e =
    let p = filter_contains (λ s. not (s == coordinator_of shards batch) && is_touched shards batch s) (range_with_len 0 shards) c m in
    let q = (and_parts (not (c == coordinator_of shards batch)) (is_touched shards batch c) p.1).0 in
    false≢true (sym (ap not (eq-eqb c (coordinator_of shards batch) e)) ∙ q)

pub shard_below : (top : TopologyValue) (node : ℕ) → 0 < top.shards → shard_of top node < top.shards
shard_below top node some = mod_below node top.shards some

-- ## Shards of one data centre

pub near_dc : (top : TopologyValue) (node c : ℕ) → c < top.shards → dc_of top (near top node c) ≡ dc_of top node
near_dc top node c lt = dc_of_shard top (dc_of top node) c lt

pub lead_dc : (top : TopologyValue) (dc : ℕ) (batch : List Change) → 0 < top.shards → dc_of top (lead top dc batch) ≡ dc
lead_dc top dc batch some = dc_of_shard top dc (coordinator_of top.shards batch) (coordinator_below top.shards batch some)

-- the coordinator's own number is that of the batch's first row
pub lead_number : (top : TopologyValue) (node dc : ℕ) (batch : List Change) → 0 < top.shards → node ≡ lead top dc batch → shard_of top node ≡ coordinator_of top.shards batch
lead_number top node dc batch some e = ap (shard_of top) e ∙ number_of_shard top dc (coordinator_of top.shards batch) (coordinator_below top.shards batch some)

-- ## The same shard of another data centre

pub peer_dc : (top : TopologyValue) (node dc : ℕ) → 0 < top.shards → dc_of top (shard_node top dc (shard_of top node)) ≡ dc
peer_dc top node dc some = dc_of_shard top dc (shard_of top node) (shard_below top node some)

pub peer_number : (top : TopologyValue) (node dc : ℕ) → 0 < top.shards → shard_of top (shard_node top dc (shard_of top node)) ≡ shard_of top node
peer_number top node dc some = number_of_shard top dc (shard_of top node) (shard_below top node some)

pub peer_part : (top : TopologyValue) (batch : List Change) (node dc : ℕ) → 0 < top.shards → part_on top batch node ≡ part_on top batch (shard_node top dc (shard_of top node))
peer_part top batch node dc some = sym (ap (part_for top.shards (normal_of batch)) (peer_number top node dc some))

-- each part of a batch is in normal form
pub normal_on : (top : TopologyValue) (batch : List Change) (node : ℕ) → IsNormal (part_on top batch node)
normal_on top batch node = normal_part top.shards (shard_of top node) (normal_of batch) (normal_form batch)

-- ## Numbers of shards in order

pub listed_below : (n s : ℕ) → Contains (range_with_len 0 n) s → s < n
listed_below n s m = let lt = (within_range 0 n s m).1 in omega arith
