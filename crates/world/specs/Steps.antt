-- What a call makes of the actors of a world.
use Rattle.std.specs.Prelude.{◌≡◌, ℕ, ◌++◌, List, Some, Result, Ok, Err}
use Rattle.logical_time.specs.declared.fault.Fault.{Fault}
use Rattle.store.specs.Keeps.{AreApart}
use Rattle.messages.specs.declared.op.Op.{Op}
use Rattle.messages.specs.declared.envelope.Envelope.{Envelope}
use Rattle.messages.specs.Topology.{TopologyValue}
use Rattle.messages.specs.Shard.{ShardState, ShardStep}
use Rattle.messages.specs.Session.{SessionStep}
use Rattle.messages.specs.SessionEvents.{session_taken}
use Rattle.shard.specs.declared.kept.ShardKept.{ShardKept}
use Rattle.client.specs.Represents as session
use Rattle.world.specs.declared.station.Station.{Station}
use Rattle.world.specs.Run.{Completed, with_actor, with_ended}
use Rattle.world.specs.Holds.{AreShards, ended_as, kept_after}

-- where the step isn't refused, the parts that are applied after it have their stamps apart
abbrev pub StaysApart : Result ShardStep Fault → Type 0
StaysApart (Ok s) = AreApart s.state.applied
StaysApart (Err e) = Unit {0}

-- one shard did this step, and no other changed; what it sends was added
abbrev pub DidShard : TopologyValue → (ℕ → ShardState) → ℕ → Result ShardStep Fault → List ShardKept → List Envelope → List Envelope → Type 0
DidShard top states node (Ok s) kept before after = AreShards top (with_actor states node s.state) kept × (after ≡ before ++ s.sends)
DidShard top states node (Err e) kept before after = ⊥

-- A session did this step, and its outcome was taken: what it ended was added to the transcript, of the home where the session
-- was before the step.
pub record DidSession (top : TopologyValue) (step : SessionStep) (old new : Station) (before after : List Envelope) (told now : List Completed) : Type 0 where
  pub stands : session.Represents new.session top (session_taken step.state)
  pub same : new.session.node ≡ old.session.node
  pub node : new.node ≡ old.node
  pub op : new.op ≡ kept_after old.op step.state.untaken
  pub sends : after ≡ before ++ step.sends
  pub ended : now ≡ with_ended told (ended_as old.node old.session.home.dc old.op step.state.untaken)

abbrev pub DidSessionOf : TopologyValue → Result SessionStep Fault → Station → Station → List Envelope → List Envelope → List Completed → List Completed → Type 0
DidSessionOf top (Ok step) old new before after told now = DidSession top step old new before after told now
DidSessionOf top (Err e) old new before after told now = ⊥

-- A session accepted an operation, which is kept until it ends: a move may end at once.
abbrev pub DidSubmitOf : TopologyValue → Result SessionStep Fault → Op → Station → Station → List Envelope → List Envelope → List Completed → List Completed → Type 0
DidSubmitOf top r kept old new before after told now = DidSessionOf top r (record old { op = Some kept }) new before after told now
