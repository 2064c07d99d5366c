-- What is committed in a data centre by a time, and what the times of outcomes are.
use Rattle.std.specs.Prelude.{◌≡◌, ℕ, ◌≤◌, Contains}
use Rattle.logical_time.specs.Stamps.{TxnValue}
use Rattle.messages.specs.declared.outcome.Outcome.{Outcome}
use Rattle.messages.specs.declared.outcome.Outcome.TheVariants as outcome
use Rattle.messages.specs.Topology.{TopologyValue}
use Rattle.messages.specs.Shard.{Decision}
use Rattle.world.specs.Run.{Run}
use Rattle.world.specs.Histories.{decisions_in}

-- the transaction is committed in the data centre, with a commit time not above this one
abbrev pub IsCommittedBy : TopologyValue → Run → ℕ → TxnValue → ℕ → Type 0
IsCommittedBy top w dc t time = (d : Decision) × Contains (decisions_in top w dc) d × (d.txn ≡ t) × (d.commit ≤ time)

-- the commit time of a write, or the effective time of a read; 0 for a read that was given up and for a move
abbrev pub time_of : Outcome → ℕ
time_of (outcome.Wrote commit stamp) = commit
time_of (outcome.Read time answer) = time
time_of outcome.Collected = 0
time_of (outcome.Moved dc floor) = 0

-- the outcome's time isn't below this one; a read that was given up has none, nor has a move
abbrev pub IsNotBelow : Outcome → ℕ → Type 0
IsNotBelow (outcome.Wrote commit stamp) n = n ≤ commit
IsNotBelow (outcome.Read time answer) n = n ≤ time
IsNotBelow outcome.Collected n = Unit {0}
IsNotBelow (outcome.Moved dc floor) n = Unit {0}
