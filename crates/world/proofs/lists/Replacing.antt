-- One actor of a list does its step.
use Rattle.std.proofs.Common.{arith, ◌≡◌, ◌∙◌, ℕ, zero, suc, ◌<◌, List, [], ◌∷◌, length, slice_get, Some, Result, Ok, Err, refl, sym, ap, subst}
use Rattle.std.specs.Prelude.{slice_set, slice_index_or}
use Rattle.std.proofs.lemmas.Option.{slice_get-get_or}
use Rattle.logical_time.specs.declared.fault.Fault.{Fault}
use Rattle.messages.specs.declared.envelope.Envelope.{Envelope}
use Rattle.messages.specs.Topology.{TopologyValue}
use Rattle.messages.specs.Shard.{ShardState, ShardStep}
use Rattle.shard.specs.declared.kept.ShardKept.{ShardKept}
use Rattle.shard.specs.Kept as shard
pub use Rattle.shard.proofs.in_code.InPlace.{on_ok}
pub use Rattle.shard.proofs.in_code.ShardSteps.{on_err, if_err}
use Rattle.messages.specs.Session.{SessionState, SessionStep}
use Rattle.messages.specs.SessionEvents.{session_taken}
use Rattle.client.specs.declared.kept.SessionKept.{SessionKept}
use Rattle.client.specs.Represents as session
use Rattle.client.specs.State.{finished_of}
use Rattle.world.specs.declared.station.Station.{Station}
use Rattle.world.specs.Run.{Completed, with_ended}
use Rattle.world.specs.Holds.{AreShards, ended_as, kept_after}
use Rattle.world.specs.Steps.{StaysApart, DidShard, DidSessionOf}
use Rattle.world.proofs.in_code.Running.{length_set, by_place, shards_go_on}

pub item_at : {X : Type 0} (xs : List X) (place : ℕ) (x : X) → place < length xs → x ≡ slice_index_or xs place x → slice_get xs place ≡ Some x
item_at xs place x lt at = slice_get-get_or xs place x lt ∙ ap Some (sym at)

pub shard_stands : (top : TopologyValue) (states : ℕ → ShardState) (xs : List ShardKept) (place : ℕ) (k : ShardKept) → place < length xs → k ≡ slice_index_or xs place k
    → AreShards top states xs → shard.Represents top place k (states place)
shard_stands top states xs place k lt at are = are.each place k (item_at xs place k lt at)

-- its step is done in the list
pub shard_did : (top : TopologyValue) (states : ℕ → ShardState) (xs : List ShardKept) (place : ℕ) (l : ShardKept) (r : Result ShardStep Fault) (before after : List Envelope)
    → place < length xs → AreShards top states xs → StaysApart r → shard.IsStepOf top place r l before after → DidShard top states place r (slice_set xs place l) before after
shard_did top states xs place l (Err e) before after lt are apart did = did
shard_did top states xs place l (Ok s) before after lt are apart did =
    let d = did apart in
    (shards_go_on top states xs place l s.state are lt d.state, d.sends)

-- something stands at a place of a list
pub at_place : {X : Type 0} (xs : List X) (n : ℕ) → n < length xs → (x : X) × (slice_get xs n ≡ Some x)
at_place [] n lt = absurd (omega (arith, lt))
at_place (x ∷ xs) zero lt = (x, refl)
at_place (x ∷ xs) (suc n) lt = at_place xs n (omega (arith, lt))

-- a shard that goes on to stand for what it stood for is one of them still
pub shard_still : (top : TopologyValue) (states : ℕ → ShardState) (xs : List ShardKept) (place : ℕ) (k l : ShardKept) → place < length xs → k ≡ slice_index_or xs place k
    → AreShards top states xs → shard.GoesOn k l → AreShards top states (slice_set xs place l)
shard_still top states xs place k l lt at are goes =
    record {
      len = length_set xs place l ∙ are.len;
      each =
          by_place xs place l (λ i m. shard.Represents top i m (states i)) lt (goes top place (states place) (shard_stands top states xs place k lt at are))
          (λ i m apart there. are.each i m there);
    }

-- what the step refuses is refused so
pub refused_as : (r : Result ShardStep Fault) (e : Fault) → r ≡ Err e → shard.IsRefusalOf r e
refused_as r e q = subst (λ z. shard.IsRefusalOf z e) (sym q) refl

-- a session did its step, and what it finished was taken and told
pub station_did : (top : TopologyValue) (r : Result SessionStep Fault) (handled taken : SessionKept) (old new : Station) (before after : List Envelope) (told now : List Completed)
    → session.IsStepOf r top handled before after
    → ((t : TopologyValue) (a : SessionState) → session.Represents handled t a → session.Represents taken t (session_taken a))
    → handled.node ≡ old.session.node → taken.node ≡ handled.node
    → new ≡ record { node = old.node; session = taken; op = kept_after old.op (finished_of handled.untaken) }
    → now ≡ with_ended told (ended_as old.node old.session.home.dc old.op (finished_of handled.untaken))
    → DidSessionOf top r old new before after told now
station_did top (Err e) handled taken old new before after told now did takes same node is ended = did
station_did top (Ok s) handled taken old new before after told now did takes same node is ended =
    let untaken : s.state.untaken ≡ finished_of handled.untaken = ap (λ (a : SessionState). a.untaken) did.state.state in
    let stands : session.Represents taken top (session_taken s.state) = takes top s.state did.state in
    record {
      stands = subst (λ (z : Station). session.Represents z.session top (session_taken s.state)) (sym is) stands;
      same = ap (λ (z : Station). z.session.node) is ∙ node ∙ same;
      node = ap (λ (z : Station). z.node) is;
      op = ap (λ (z : Station). z.op) is ∙ ap (kept_after old.op) (sym untaken);
      sends = did.sends;
      ended = ended ∙ ap (λ f. with_ended told (ended_as old.node old.session.home.dc old.op f)) (sym untaken);
    }
