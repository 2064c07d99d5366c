-- When what a world keeps stands for a run.
use Rattle.std.specs.Prelude.{◌≡◌, ℕ, ◌+◌, true, false, ◌==◌, List, map, length, slice_get, filter_map, Option, Some, None, option_map, option_and_then}
use Rattle.std.specs.List.{list_any}
use Rattle.messages.specs.declared.op.Op.{Op}
use Rattle.messages.specs.Topology.{TopologyValue, shard_count, is_topology}
use Rattle.messages.specs.Shard.{ShardState}
use Rattle.messages.specs.Session.{Finished, is_idle}
use Rattle.shard.specs.declared.kept.ShardKept.{ShardKept}
use Rattle.shard.specs.Kept as shard
use Rattle.client.specs.Represents as session
use Rattle.world.specs.declared.station.Station.{Station}
use Rattle.world.specs.declared.actors.Actors.{Actors}
use Rattle.world.specs.declared.log.Log.{Log}
use Rattle.world.specs.Asked.{write_of, write_noted}
use Rattle.world.specs.Delivered.{is_marked}
use Rattle.world.specs.Run.{Run, RunEvent, Submission, Completed, submission_of, step, run}
use Rattle.world.specs.Refusals.{refusal_of}
use Rattle.world.specs.Quiet.{handled}

-- the shards stand for these states, each by its node
pub record AreShards (top : TopologyValue) (states : ℕ → ShardState) (kept : List ShardKept) : Type 0 where
  pub len : length kept ≡ shard_count top
  pub each : (i : ℕ) (k : ShardKept) → slice_get kept i ≡ Some k → shard.Represents top i k (states i)

-- the operation is the last one that the session submitted, at its home
pub record IsOpOf (w : Run) (node : ℕ) (o : Option Op) : Type 0 where
  pub submission : Submission
  pub found : submission_of w.submitted (record { session = node; number = (w.sessions node).count }) ≡ Some submission
  pub op : o ≡ Some submission.op
  pub home : submission.home ≡ (w.sessions node).home

-- a session stands for the state of its node, and its operation is kept until it ends
pub record Sits (w : Run) (top : TopologyValue) (me : ℕ) (s : Station) : Type 0 where
  pub stands : session.Represents s.session top (w.sessions me)
  pub same : s.session.node ≡ me
  pub node : s.node ≡ me
  pub op : is_idle (w.sessions me).current ≡ false → IsOpOf w me s.op

-- the sessions follow the shards
pub record AreStations (w : Run) (top : TopologyValue) (stations : List Station) : Type 0 where
  pub len : length stations ≡ length top.homes
  pub each : (i : ℕ) (s : Station) → slice_get stations i ≡ Some s → Sits w top (shard_count top + i) s

-- The actors of the topology, what was sent and what ended are those of the run.
pub record IsRunning (top : TopologyValue) (w : Run) (a : Actors) : Type 0 where
  pub topology : a.topology ≡ top
  pub sound : is_topology top.dcs top.shards top.homes ≡ true
  pub shards : AreShards top w.shards a.shards.items
  pub stations : AreStations w top a.stations.items
  pub sent : w.sent ≡ a.network.sent
  pub transcript : w.transcript ≡ a.transcript.items

-- the run of these events doesn't refuse this one, and the actors are those of the run with it
pub record HasTaken (top : TopologyValue) (events : List RunEvent) (x : RunEvent) (a : Actors) : Type 0 where
  pub allowed : refusal_of top (run top events) x ≡ None
  pub running : IsRunning top (step top (run top events) x) a

-- All that a world keeps stands for the run of its events, of which it refuses none.
pub record Holds (top : TopologyValue) (a : Actors) (l : Log) : Type 0 where
  pub events : (run top l.events.items).events ≡ l.events.items
  pub running : IsRunning top (run top l.events.items) a
  pub delivered : (k : ℕ) → is_marked l.delivered.marks k ≡ list_any (λ j. j == k) (handled (run top l.events.items))
  pub writes : map write_noted l.writes.items ≡ filter_map write_of (run top l.events.items).submitted

-- ## What a session's step ended

-- the operation that ended, by what the session finished and the operation that was kept
abbrev pub ended_as : ℕ → ℕ → Option Op → Option Finished → Option Completed
ended_as node home o f =
    option_and_then (λ g. option_map (λ op. record { node = node; number = g.number; home = home; op = op; outcome = g.outcome }) o) f

-- it is kept no more once it ended
abbrev pub kept_after : Option Op → Option Finished → Option Op
kept_after o None = o
kept_after o (Some f) = None
