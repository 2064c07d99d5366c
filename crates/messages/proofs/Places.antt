-- Places of shards: where each shard stands, and which shards stand beside it.
use Rattle.std.proofs.Common.{◌≡◌, ◌∙◌, ap, sym, refl, ℕ, ◌+◌, ◌*◌, Bool, true, false, cond, [], ◌∷◌, ◌++◌, map, arith}
use Rattle.std.specs.Prelude.{not, ◌==◌, filter}
use Rattle.std.specs.List.{range_with_len}
use Rattle.std.proofs.lemmas.List.{map-id, map-append}
use Rattle.std.proofs.lemmas.List.Elements.{filter-append}
use Rattle.std.proofs.lemmas.List.FromFn.{map-range_with_len_more}
use Rattle.messages.specs.Topology.{TopologyValue, shard_node, dc_of, shard_of}
use Rattle.messages.specs.Words.{other_dcs}
use Rattle.messages.specs.Place.{PlaceValue, IsPlace, others_of}
use Rattle.messages.proofs.Numbering.{dc_of_shard, number_of_shard}

-- ## Where a shard stands

node_at : (top : TopologyValue) (me : ℕ) (p : PlaceValue) → IsPlace top me p → me ≡ shard_node top p.dc p.shard
node_at top me p is = is.node ∙ ap (λ s. p.dc * s + p.shard) is.shards

pub dc_at_place : (top : TopologyValue) (me : ℕ) (p : PlaceValue) → IsPlace top me p → dc_of top me ≡ p.dc
dc_at_place top me p is =
    let below = is.shard_below in
    let same = is.shards in
    ap (dc_of top) (node_at top me p is) ∙ dc_of_shard top p.dc p.shard (omega arith)

pub shard_at_place : (top : TopologyValue) (me : ℕ) (p : PlaceValue) → IsPlace top me p → shard_of top me ≡ p.shard
shard_at_place top me p is =
    let below = is.shard_below in
    let same = is.shards in
    ap (shard_of top) (node_at top me p is) ∙ number_of_shard top p.dc p.shard (omega arith)

pub near_place : (top : TopologyValue) (me : ℕ) (p : PlaceValue) (shard : ℕ) → IsPlace top me p
    → p.dc * p.shards + shard ≡ shard_node top (dc_of top me) shard
near_place top me p shard is =
    ap (λ s. p.dc * s + shard) is.shards ∙ ap (λ d. shard_node top d shard) (sym (dc_at_place top me p is))

-- ## Which shards stand beside it

pub others_at_place : (top : TopologyValue) (me : ℕ) (p : PlaceValue) → IsPlace top me p
    → others_of p ≡ map (λ d. shard_node top d (shard_of top me)) (other_dcs top me)
others_at_place top me p is =
    ap (λ s. map (λ d. d * s + p.shard) (filter (λ d. not (d == p.dc)) (range_with_len 0 p.dcs))) is.shards
    ∙ (ap (λ s. map (λ d. shard_node top d s) (filter (λ d. not (d == p.dc)) (range_with_len 0 p.dcs))) (sym (shard_at_place top me p is))
    ∙ (ap (λ c. map (λ d. shard_node top d (shard_of top me)) (filter (λ d. not (d == c)) (range_with_len 0 p.dcs))) (sym (dc_at_place top me p is))
    ∙ ap (λ n. map (λ d. shard_node top d (shard_of top me)) (filter (λ d. not (d == dc_of top me)) (range_with_len 0 n))) is.dcs))

range_more : (n : ℕ) → range_with_len 0 (n + 1) ≡ range_with_len 0 n ++ n ∷ []
range_more n =
    sym (map-id (range_with_len 0 (n + 1))) ∙ (map-range_with_len_more (λ x. x) 0 n n (omega arith) ∙ ap (λ xs. xs ++ n ∷ []) (map-id (range_with_len 0 n)))

cond_map : (f : ℕ → ℕ) (b : Bool) (n : ℕ) → map f (filter (λ _. b) (n ∷ [])) ≡ cond b (f n ∷ []) []
cond_map f true n = refl
cond_map f false n = refl

-- one more data centre adds its shard, if it passes the test
pub others_more : (f : ℕ → ℕ) (p : ℕ → Bool) (n : ℕ)
    → map f (filter p (range_with_len 0 (n + 1))) ≡ map f (filter p (range_with_len 0 n)) ++ cond (p n) (f n ∷ []) []
others_more f p n =
    ap (λ xs. map f (filter p xs)) (range_more n)
    ∙ (ap (map f) (filter-append p (range_with_len 0 n) (n ∷ []))
    ∙ (map-append f (filter p (range_with_len 0 n)) (filter p (n ∷ []))
    ∙ ap (λ xs. map f (filter p (range_with_len 0 n)) ++ xs) (cond_map f (p n) n)))
