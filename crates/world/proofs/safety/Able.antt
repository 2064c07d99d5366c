-- What a step has to show: what it adds is sound in the run after it.
use Rattle.std.specs.Prelude.{◌≡◌, ℕ, ◌⊎◌, Contains}
use Rattle.store.specs.declared.part.Applied.{Applied}
use Rattle.messages.specs.declared.envelope.Envelope.{Envelope}
use Rattle.messages.specs.Topology.{TopologyValue, dc_of}
use Rattle.messages.specs.Shard.{ShardState, ShardStep, PreparedPart, BegunBallot, Vote, Decision, KeptPart, KeptBallot, Met, Asker}
use Rattle.world.specs.Run.{Run}
use Rattle.world.proofs.growing.Growth.{ShardGrows, Grows}
use Rattle.world.proofs.safety.Facts.{IsDone, DecidedOnce, PreparedBefore, PreparedSound, BallotSound, KeptBallotSound, KeptPartSound, DecisionSound, AppliedSound}
use Rattle.world.proofs.safety.Invariant.{MayWait, EnvelopeSound}

-- each entry of the step's state is old or sound in the run, and each envelope that it sends is sound there
pub record AddsSound (top : TopologyValue) (x : Run) (node : ℕ) (a : ShardState) (st : ShardStep) : Type 0 where
  pub prepared : (p : PreparedPart) → Contains st.state.prepared p → Contains a.prepared p ⊎ PreparedSound top x node p
  pub ballots : (b : BegunBallot) → Contains st.state.ballots b → Contains a.ballots b ⊎ BallotSound top x node (x.shards node).clock b
  pub early : (v : Vote) → Contains st.state.early v → Contains a.early v ⊎ PreparedBefore x v.node v.txn (x.shards node).clock
  pub votes : (v : Vote) → Contains st.state.votes v → Contains a.votes v ⊎ PreparedBefore x v.node v.txn (x.shards node).clock
  pub decided : (d : Decision) → Contains st.state.decided d → Contains a.decided d ⊎ DecisionSound top x node d
  pub once : DecidedOnce st.state.decided
  pub applied : (v : Applied) → Contains st.state.applied v → Contains a.applied v ⊎ AppliedSound top x node v
  pub kept_parts : (k : KeptPart) → Contains st.state.kept_parts k → Contains a.kept_parts k ⊎ KeptPartSound top x node k
  pub kept_ballots : (r : KeptBallot) → Contains st.state.kept_ballots r → Contains a.kept_ballots r ⊎ KeptBallotSound top x node (x.shards node).clock r
  pub met : (m : Met) → Contains st.state.met m → Contains a.met m ⊎ IsDone top x (dc_of top node) m.dependency (x.shards node).clock
  pub askers : (k : Asker) → Contains st.state.askers k → Contains a.askers k ⊎ MayWait top x node k.waiter k.from
  pub sends : (e : Envelope) → Contains st.sends e → EnvelopeSound top x e

-- a step from this shard, as it is or with an input added, that keeps all in every later run where the shard is as it
-- leaves it
pub record Able (top : TopologyValue) (w : Run) (node : ℕ) (a : ShardState) (st : ShardStep) : Type 0 where
  pub grows : ShardGrows a st.state
  pub fresh : (x : Run) → Grows top w x → x.shards node ≡ st.state → AddsSound top x node a st
