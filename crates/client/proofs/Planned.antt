-- The envelopes made from a plan are those of the machine.
use Rattle.std.proofs.Common.{◌≡◌, ◌∙◌, ℕ, ◌+◌, ap, refl, List, [], ◌∷◌, map}
use Rattle.column_family.specs.declared.batch.Change.{Change}
use Rattle.column_family.specs.Places.{normal_of}
use Rattle.logical_time.specs.Stamps.{TxnValue}
use Rattle.slice.specs.declared.read.Read.{Read}
use Rattle.planner.specs.declared.batches.ShardPart.{ShardPart}
use Rattle.planner.specs.declared.reads.ShardKeys.{ShardKeys}
use Rattle.planner.specs.Plan.{coordinator_of, cohorts_of, shards_asked}
use Rattle.planner.specs.Planned.{part_on, keys_on}
use Rattle.messages.specs.declared.op.Op.TheVariants as op
use Rattle.messages.specs.Rounds.{asked_nodes}
use Rattle.client.specs.declared.kept.SessionKept.{SessionKept}
use Rattle.client.specs.Accepted.{posted}
use Rattle.client.specs.Envelopes.{node_in, begin_part, prepare_part, check_part, read_keys, batch_envelopes}
use Rattle.client.specs.Home.{HomeValue}
use Rattle.client.specs.State.{dependencies_of, state_of, topology_of}

pub mapped_twice : {X Y Z : Type 0} (f : X → Y) (g : Y → Z) (xs : List X) → map g (map f xs) ≡ map (λ x. g (f x)) xs
mapped_twice f g [] = refl
mapped_twice f g (x ∷ xs) = ap (λ ys. g (f x) ∷ ys) (mapped_twice f g xs)

pub mapped_same : {X : Type 0} (xs : List X) → map (λ x. x) xs ≡ xs
mapped_same [] = refl
mapped_same (x ∷ xs) = ap (λ ys. x ∷ ys) (mapped_same xs)

begun_batch : (k : SessionKept) (n : ℕ) (batch : List Change)
    → batch_envelopes k.home k.node n (record { session = k.node; number = k.count + 1 }) (dependencies_of k)
    (part_on k.home.shards (normal_of batch) (coordinator_of k.home.shards batch)) (map (part_on k.home.shards (normal_of batch)) (cohorts_of k.home.shards batch))
    ≡ posted k n (op.Batch batch)
begun_batch k n batch =
    let txn : TxnValue = record { session = k.node; number = k.count + 1 } in
    let part : ℕ → ShardPart = part_on k.home.shards (normal_of batch) in
    let first = coordinator_of k.home.shards batch in
    let cohorts = cohorts_of k.home.shards batch in
    ap (λ cs. begin_part k.home k.node n txn cs (dependencies_of k) (part first) ∷ map (prepare_part k.home k.node n txn first) (map part cohorts))
    (mapped_twice part (λ (p : ShardPart). p.shard) cohorts ∙ mapped_same cohorts)
    ∙ ap (λ es. begin_part k.home k.node n txn cohorts (dependencies_of k) (part first) ∷ es) (mapped_twice part (prepare_part k.home k.node n txn first) cohorts)

pub posted_batch : (k : SessionKept) (n : ℕ) (batch : List Change) (coordinator : ShardPart) (cohorts : List ShardPart)
    → coordinator ≡ part_on k.home.shards (normal_of batch) (coordinator_of k.home.shards batch)
    → cohorts ≡ map (part_on k.home.shards (normal_of batch)) (cohorts_of k.home.shards batch)
    → batch_envelopes k.home k.node n (record { session = k.node; number = k.count + 1 }) (dependencies_of k) coordinator cohorts ≡ posted k n (op.Batch batch)
posted_batch k n batch coordinator cohorts e es =
    let txn : TxnValue = record { session = k.node; number = k.count + 1 } in
    ap (λ c. batch_envelopes k.home k.node n txn (dependencies_of k) c cohorts) e
    ∙ (ap (λ cs. batch_envelopes k.home k.node n txn (dependencies_of k) (part_on k.home.shards (normal_of batch) (coordinator_of k.home.shards batch)) cs) es
    ∙ begun_batch k n batch)

pub posted_read : (k : SessionKept) (n : ℕ) (read : Read) (asked : List ShardKeys) → asked ≡ map (keys_on k.home.shards read.keys) (shards_asked k.home.shards read.keys)
    → map (read_keys k.home k.node n (k.count + 1) read) asked ≡ posted k n (op.Read read)
posted_read k n read asked e =
    ap (map (read_keys k.home k.node n (k.count + 1) read)) e
    ∙ mapped_twice (keys_on k.home.shards read.keys) (read_keys k.home k.node n (k.count + 1) read) (shards_asked k.home.shards read.keys)

pub asked_read : (k : SessionKept) (read : Read) (asked : List ShardKeys) → asked ≡ map (keys_on k.home.shards read.keys) (shards_asked k.home.shards read.keys)
    → map (λ s. node_in k.home s.shard) asked ≡ asked_nodes (topology_of k) (state_of k) read
asked_read k read asked e =
    ap (map (λ (s : ShardKeys). node_in k.home s.shard)) e
    ∙ mapped_twice (keys_on k.home.shards read.keys) (λ (s : ShardKeys). node_in k.home s.shard) (shards_asked k.home.shards read.keys)

pub posted_move : (k : SessionKept) (n dc : ℕ) (home : HomeValue) → home ≡ record k.home { dc = dc }
    → map (check_part home k.node n (record { session = k.node; number = k.count + 1 })) (dependencies_of k) ≡ posted k n (op.Move dc)
posted_move k n dc home e = ap (λ (h : HomeValue). map (check_part h k.node n (record { session = k.node; number = k.count + 1 })) (dependencies_of k)) e
