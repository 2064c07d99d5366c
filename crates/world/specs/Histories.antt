-- What a run committed in a data centre, and its tables.
use Rattle.std.specs.Prelude.{ℕ, List, filter_map, flat_map, Option, Some, None, option_map, option_and_then, IsPermutation}
use Rattle.std.specs.List.{range_with_len}
use Rattle.logical_time.specs.Stamps.{TxnValue}
use Rattle.column_family.specs.declared.batch.Change.{Change}
use Rattle.column_family.specs.declared.batch.Committed.{Committed}
use Rattle.column_family.specs.History.{History}
use Rattle.messages.specs.declared.op.Op.{Op}
use Rattle.messages.specs.declared.op.Op.TheVariants as op
use Rattle.messages.specs.Topology.{TopologyValue, shard_node}
use Rattle.messages.specs.Shard.{Decision}
use Rattle.world.specs.Run.{Run, submission_of}

abbrev pub batch_in : Op → Option (List Change)
batch_in (op.Batch batch) = Some batch
batch_in (op.Read read) = None
batch_in (op.Move dc) = None

-- the batch of a transaction, as its session submitted it
abbrev pub batch_submitted : Run → TxnValue → Option (List Change)
batch_submitted w t = option_and_then (λ s. batch_in s.op) (submission_of w.submitted t)

-- what the shards of a data centre decided as coordinators, by ascending shard
abbrev pub decisions_in : TopologyValue → Run → ℕ → List Decision
decisions_in top w dc = flat_map (λ shard. (w.shards (shard_node top dc shard)).decided) (range_with_len 0 top.shards)

-- a decided transaction: its batch as submitted, its stamp, and its commit time in the data centre of the decision
abbrev pub committed_of : Run → Decision → Option Committed
committed_of w d = option_map (λ batch. record { batch = batch; stamp = d.stamp; commit = d.commit }) (batch_submitted w d.txn)

-- the history of a data centre: one entry for each transaction that its coordinator there has decided
abbrev pub history_of : TopologyValue → Run → ℕ → History
history_of top w dc = filter_map (committed_of w) (decisions_in top w dc)

-- the same in any order
abbrev pub IsHistory : TopologyValue → Run → ℕ → History → Type 0
IsHistory top w dc h = IsPermutation h (history_of top w dc)
