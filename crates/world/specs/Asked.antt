-- What one gets by asking the shards of a world for a write.
use Rattle.std.specs.Prelude.{ℕ, List, Option, option_map}
use Rattle.logical_time.specs.Stamps.{TxnValue, StampValue}
use Rattle.column_family.specs.declared.batch.Change.{Change}
use Rattle.column_family.specs.declared.batch.Committed.{Committed}
use Rattle.column_family.specs.Normal.{committed}
use Rattle.planner.specs.Plan.{coordinator_of}
use Rattle.messages.specs.Topology.{TopologyValue, shard_node}
use Rattle.messages.specs.Shard.{ShardState}
use Rattle.messages.specs.Known.{decision_of}
use Rattle.world.specs.declared.written.Written.{Written}
use Rattle.world.specs.Run.{Submission}
use Rattle.world.specs.Entries.{named_by}
use Rattle.world.specs.Histories.{batch_in}

-- the entry of a batch, by the commit time and the stamp that were told of it
abbrev pub entry_by : List Change → Option (ℕ × StampValue) → Option Committed
entry_by batch told = option_map (λ p. committed batch p.1 p.0) told

-- a write that was submitted, as its transaction and its batch: by the submission, and by what a world notes of it
abbrev pub write_of : Submission → Option (TxnValue × List Change)
write_of s = option_map (λ batch. (named_by s, batch)) (batch_in s.op)

abbrev pub write_noted : Written → TxnValue × List Change
write_noted x = (x.txn, x.batch)

-- what the coordinator of a write in the data centre tells of it: its entry there, once it is decided
abbrev pub entry_of : TopologyValue → (ℕ → ShardState) → ℕ → TxnValue × List Change → Option Committed
entry_of top states dc w =
    option_map (λ d. committed w.1 d.stamp d.commit) (decision_of w.0 (states (shard_node top dc (coordinator_of top.shards w.1))))

abbrev pub entry_at : TopologyValue → (ℕ → ShardState) → ℕ → Written → Option Committed
entry_at top states dc x = entry_of top states dc (write_noted x)
