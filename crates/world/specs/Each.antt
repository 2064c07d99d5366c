-- The shards of a run, one by one: what the journal of each makes of a shard, and when it is right.
use Rattle.std.specs.Prelude.{◌≡◌, ℕ, true}
use Rattle.messages.specs.Topology.{TopologyValue, is_shard}
use Rattle.shard.specs.Events.{shard_run}
use Rattle.shard.specs.Right.{IsRightShard}
use Rattle.world.specs.Run.{Run}
use Rattle.world.specs.Journals.{journal_in, sent_from}

-- The shard of the run is what its own journal makes of a shard, what that sent is what the run has from its node, in order,
-- and it is right.
pub record IsRightInRun (top : TopologyValue) (w : Run) (node : ℕ) : Type 0 where
  pub state : (shard_run top node (journal_in w node)).state ≡ w.shards node
  pub sent : (shard_run top node (journal_in w node)).sent ≡ sent_from w node
  pub right : IsRightShard top node (shard_run top node (journal_in w node))

-- each shard of the run is right
abbrev pub EachShardIsRight : TopologyValue → Run → Type 0
EachShardIsRight top w = (node : ℕ) → is_shard top node ≡ true → IsRightInRun top w node
