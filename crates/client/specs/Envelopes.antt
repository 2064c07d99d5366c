-- The envelopes of a session, by its home and the parts of a plan.
use Rattle.std.specs.Prelude.{ℕ, ◌+◌, ◌*◌, List, ◌∷◌, map}
use Rattle.logical_time.specs.Stamps.{TxnValue, WriterValue}
use Rattle.slice.specs.declared.read.Read.{Read}
use Rattle.planner.specs.declared.batches.ShardPart.{ShardPart}
use Rattle.planner.specs.declared.reads.ShardKeys.{ShardKeys}
use Rattle.messages.specs.declared.body.Body.TheVariants as body
use Rattle.messages.specs.declared.envelope.Envelope.{Envelope}
use Rattle.messages.specs.Words.{envelope}
use Rattle.client.specs.Home.{HomeValue}

-- the node of a shard
abbrev pub node_in : HomeValue → ℕ → ℕ
node_in home shard = home.dc * home.shards + shard

-- Prepare, to a cohort
abbrev pub prepare_part : HomeValue → ℕ → ℕ → TxnValue → ℕ → ShardPart → Envelope
prepare_part home node time txn coordinator part =
    envelope node (node_in home part.shard) time (body.Prepare txn part.batch coordinator)

-- Read, to a shard that holds these keys
abbrev pub read_keys : HomeValue → ℕ → ℕ → ℕ → Read → ShardKeys → Envelope
read_keys home node time number read share =
    envelope node (node_in home share.shard) time (body.Read number (record read { keys = share.keys }))

-- DepCheck, to the coordinator of a dependency, for what waits for it
abbrev pub check_part : HomeValue → ℕ → ℕ → TxnValue → WriterValue → Envelope
check_part home node time waiter w = envelope node (node_in home w.shard) time (body.DepCheck w.txn waiter)

-- Begin, to the coordinator
abbrev pub begin_part : HomeValue → ℕ → ℕ → TxnValue → List ℕ → List WriterValue → ShardPart → Envelope
begin_part home node time txn cohorts dependencies part =
    envelope node (node_in home part.shard) time (body.Begin txn part.batch cohorts dependencies)

-- Begin, then Prepare to the cohorts
abbrev pub batch_envelopes : HomeValue → ℕ → ℕ → TxnValue → List WriterValue → ShardPart → List ShardPart → List Envelope
batch_envelopes home node time txn dependencies coordinator cohorts =
    begin_part home node time txn (map (λ p. p.shard) cohorts) dependencies coordinator ∷ map (prepare_part home node time txn coordinator.shard) cohorts
