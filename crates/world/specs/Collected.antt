-- When a read is given up: where its effective time lay below the horizon of a shard that it asked, as that shard said so.
use Rattle.std.specs.Prelude.{◌≡◌, ℕ, ◌<◌, ◌≤◌, List, ◌∷◌, ◌++◌, length, slice_get, Some, Contains}
use Rattle.slice.specs.declared.read.Read.{Read}
use Rattle.planner.specs.Plan.{shards_asked}
use Rattle.messages.specs.declared.rows_at.AtTime.TheVariants as at
use Rattle.messages.specs.declared.body.Body.TheVariants as body
use Rattle.messages.specs.declared.envelope.Envelope.{Envelope}
use Rattle.messages.specs.declared.op.Op.TheVariants as op
use Rattle.messages.specs.declared.outcome.Outcome.TheVariants as outcome
use Rattle.messages.specs.Topology.{TopologyValue, shard_node}
use Rattle.messages.specs.Session.{HeardNow, HeardAt, SecondRound}
use Rattle.messages.specs.Rounds.{effective_time}
use Rattle.world.specs.Run.{Run, RunEvent, Deliver, Completed, step, run}
use Rattle.world.specs.Met.{horizon}

-- the message of this number was sent at this event, after those before it
pub record WasSent (top : TopologyValue) (w : Run) (k : ℕ) (before : List RunEvent) (event : RunEvent) : Type 0 where
  pub after : List RunEvent
  pub sending : w.events ≡ before ++ event ∷ after
  pub not_sent : length (run top before).sent ≤ k
  pub by_then : k < length (step top (run top before) event).sent

-- when the shard sent this message, its horizon was above the time
pub record WasPast (top : TopologyValue) (w : Run) (shard k time : ℕ) : Type 0 where
  pub before : List RunEvent
  pub event : RunEvent
  pub sent : WasSent top w k before event
  pub above : time < horizon (run top before) shard

-- The operation was a read that asked this shard and was in its second round, which is at the read's effective time, when
-- its session heard Collected of that shard; and at the sending of that the shard's horizon was above the effective time.
pub record IsGivenUp (top : TopologyValue) (w : Run) (c : Completed) : Type 0 where
  pub read : Read
  pub op : c.op ≡ op.Read read
  pub shard : ℕ
  pub asked : Contains (shards_asked top.shards read.keys) shard
  pub before : List RunEvent
  pub after : List RunEvent
  pub k : ℕ
  pub delivery : w.events ≡ before ++ Deliver k ∷ after
  pub message : Envelope
  pub number : slice_get w.sent k ≡ Some message
  pub from : message.from ≡ shard_node top c.home shard
  pub to : message.to ≡ c.node
  pub time : ℕ
  pub body : message.body ≡ body.PartAt c.number time at.Collected
  pub first : List HeardNow
  pub heard : List HeardAt
  pub count : ((run top before).sessions c.node).count ≡ c.number
  pub second_round : ((run top before).sessions c.node).current ≡ SecondRound read time first heard
  pub effective : time ≡ effective_time ((run top before).sessions c.node).floor first
  pub past : WasPast top w (shard_node top c.home shard) k time

-- a read ends with Collected only so
abbrev pub CollectedIsBelowHorizon : TopologyValue → Run → Type 0
CollectedIsBelowHorizon top w = (c : Completed) → Contains w.transcript c → c.outcome ≡ outcome.Collected → IsGivenUp top w c

-- the horizon that a shard keeps is the greatest time of its collections so far
abbrev pub HorizonsAreOfCollections : Run → Type 0
HorizonsAreOfCollections w = (node : ℕ) → (w.shards node).low ≡ horizon w node
