-- Which shards and which keys a read asks, and whether each asked shard was heard.
use Rattle.std.proofs.Common.{◌≡◌, ℕ, ◌<◌, true, not, List, sym, ap, ◌∙◌, subst, arith, eqb-true}
use Rattle.std.specs.Prelude.{◌==◌, Contains}
use Rattle.std.specs.List.{list_any, range_with_len}
use Rattle.std.proofs.lemmas.Bool.{and_parts}
use Rattle.slice.specs.declared.read.Read.{Read}
use Rattle.planner.specs.Partition.{shard_of as shard_of_key}
use Rattle.planner.specs.Plan.{is_on, keys_for, shards_asked}
use Rattle.planner.proofs.Asked.{own_key, asked_key, asked_shard}
use Rattle.messages.specs.Topology.{TopologyValue, shard_node, shard_of}
use Rattle.messages.specs.Session.{SessionState, HeardNow, HeardAt}
use Rattle.messages.specs.Submitting.{home_node}
use Rattle.messages.specs.Rounds.{was_heard, asked_nodes, is_missing, all_heard, late_nodes, was_heard_at, is_missing_at, all_heard_at}
use Rattle.messages.proofs.Numbering.{number_of_shard}
use Rattle.world.proofs.envelopes.Near.{key_below}
use Rattle.world.proofs.lists.Members.{contains_map, mapped_from, filter_contains, within_range, any_found, all_have}

-- ## Shards

pub asked_below : (shards : ℕ) (keys : List (List ℕ)) (s : ℕ) → Contains (shards_asked shards keys) s → s < shards
asked_below shards keys s m =
    let lt = (within_range 0 shards s (filter_contains (λ s. list_any (is_on shards s) keys) (range_with_len 0 shards) s m).0).1 in
    omega arith

-- ## What was heard

pub missing_asked : (asked : List ℕ) (heard : List HeardNow) (node : ℕ) → is_missing asked heard node ≡ true → Contains asked node
missing_asked asked heard node e =
    let m = any_found (λ s. s == node) asked (and_parts (list_any (λ s. s == node) asked) (not (was_heard heard node)) e).0 in
    subst (λ s. Contains asked s) (eqb-true m.0 node m.2) m.1

pub missing_late : (asked : List ℕ) (time : ℕ) (first : List HeardNow) (heard : List HeardAt) (node : ℕ) → is_missing_at asked time first heard node ≡ true
    → Contains (late_nodes asked time first) node
missing_late asked time first heard node e =
    let late = late_nodes asked time first in
    let m = any_found (λ s. s == node) late (and_parts (list_any (λ s. s == node) late) (not (was_heard_at heard node)) e).0 in
    subst (λ s. Contains late s) (eqb-true m.0 node m.2) m.1

pub heard_from : (asked : List ℕ) (heard : List HeardNow) → all_heard asked heard ≡ true → (node : ℕ) → Contains asked node
    → (h : HeardNow) × Contains heard h × (h.from ≡ node)
heard_from asked heard all node m =
    let r = any_found (λ h. h.from == node) heard (all_have (was_heard heard) asked node all m) in
    (r.0, r.1, eqb-true r.0.from node r.2)

pub heard_late : (asked : List ℕ) (time : ℕ) (first : List HeardNow) (heard : List HeardAt) → all_heard_at asked time first heard ≡ true → (node : ℕ)
    → Contains (late_nodes asked time first) node → (h : HeardAt) × Contains heard h × (h.from ≡ node)
heard_late asked time first heard all node m =
    let r = any_found (λ h. h.from == node) heard (all_have (was_heard_at heard) (late_nodes asked time first) node all m) in
    (r.0, r.1, eqb-true r.0.from node r.2)

-- ## Keys

-- the shard of an asked key is asked
pub key_asked : (top : TopologyValue) (a : SessionState) (read : Read) (key : List ℕ) → 0 < top.shards → Contains read.keys key
    → Contains (asked_nodes top a read) (home_node top a (shard_of_key top.shards key))
key_asked top a read key some m =
    let s = shard_of_key top.shards key in
    contains_map (home_node top a) (shards_asked top.shards read.keys) s
    (asked_shard top.shards read.keys key some m)

-- and it is asked for that key
pub key_shared : (top : TopologyValue) (read : Read) (dc : ℕ) (key : List ℕ) → 0 < top.shards → Contains read.keys key
    → Contains (keys_for top.shards read.keys (shard_of top (shard_node top dc (shard_of_key top.shards key)))) key
key_shared top read dc key some m =
    let s = shard_of_key top.shards key in
    subst (λ i. Contains (keys_for top.shards read.keys i) key) (sym (number_of_shard top dc s (key_below top.shards key some)))
    (asked_key top.shards read.keys key m)

-- a key that an asked shard is asked for lies there
pub shared_lies : (top : TopologyValue) (a : SessionState) (read : Read) (node : ℕ) (key : List ℕ) → Contains (asked_nodes top a read) node
    → Contains (keys_for top.shards read.keys (shard_of top node)) key → shard_node top a.home (shard_of_key top.shards key) ≡ node
shared_lies top a read node key asked m =
    let q = mapped_from (home_node top a) (shards_asked top.shards read.keys) node asked in
    let own = (own_key top.shards (shard_of top node) read.keys key m).0 in
    ap (shard_node top a.home) (own ∙ ap (shard_of top) q.2 ∙ number_of_shard top a.home q.0 (asked_below top.shards read.keys q.0 q.1)) ∙ sym q.2
