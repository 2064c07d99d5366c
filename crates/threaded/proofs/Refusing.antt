-- With which faults shards and sessions refuse.
use Rattle.std.proofs.Common.{◌≡◌, ◌∙◌, ℕ, Bool, true, false, List, Option, Some, Result, Ok, Err, ◌⊎◌, inl, inr, refl, sym, ap, subst}
use Rattle.std.specs.Prelude.{not}
use Rattle.logical_time.specs.declared.fault.Fault.{Fault}
use Rattle.logical_time.specs.declared.fault.Fault.TheVariants.{EmptyBatch, UnknownFamily, KeyLength, NameLength, ValueLength, TooMany, RangeOrder, EmptyRead, Busy, Collected, ClockSpent, Memory, JournalFull, StrangerEnd, AlreadyHome, UnknownHome, Behind, Oversize, UnknownTag, BadCount, TrailingBytes, Truncated, Script, ReadFailed, WriteFailed}
use Rattle.messages.specs.declared.envelope.Envelope.{Envelope}
use Rattle.messages.specs.declared.outcome.Outcome.{Outcome}
use Rattle.messages.specs.declared.op.Op.{Op}
use Rattle.messages.specs.declared.event.ActorEvent.{ActorEvent}
use Rattle.messages.specs.declared.event.ActorEvent.TheVariants.{Submit, Handle, Collect}
use Rattle.messages.specs.Topology.{TopologyValue, is_shard}
use Rattle.messages.specs.Shard.{ShardState, ShardStep}
use Rattle.messages.specs.Session.{SessionState, SessionStep}
use Rattle.messages.specs.ShardEvents.{shard_handle, shard_collect}
use Rattle.messages.specs.SessionEvents.{session_handle}
use Rattle.messages.specs.Submitting.{session_submit}
use Rattle.messages.specs.Actors.{ActorState, OfShard, OfSession}
use Rattle.shard.specs.declared.kept.ShardKept.{ShardKept}
use Rattle.shard.specs.Kept as shard
use Rattle.client.specs.declared.kept.SessionKept.{SessionKept}
use Rattle.client.specs.Represents as session
use Rattle.threaded.specs.declared.actor.Actor.{Actor}
use Rattle.threaded.specs.declared.actor.Actor.TheVariants as actor
use Rattle.threaded.specs.Machines.{Stands, CameFrom, fault_of, refusal_at, is_strange, Refuses}

-- a refusal is for memory, or it isn't
memory_or_not : (e : Fault) → (e ≡ Memory) ⊎ (e ≡ Memory → ⊥)
memory_or_not EmptyBatch = inr (λ is. absurd (cc))
memory_or_not UnknownFamily = inr (λ is. absurd (cc))
memory_or_not KeyLength = inr (λ is. absurd (cc))
memory_or_not NameLength = inr (λ is. absurd (cc))
memory_or_not ValueLength = inr (λ is. absurd (cc))
memory_or_not TooMany = inr (λ is. absurd (cc))
memory_or_not RangeOrder = inr (λ is. absurd (cc))
memory_or_not EmptyRead = inr (λ is. absurd (cc))
memory_or_not Busy = inr (λ is. absurd (cc))
memory_or_not Collected = inr (λ is. absurd (cc))
memory_or_not ClockSpent = inr (λ is. absurd (cc))
memory_or_not Memory = inl refl
memory_or_not JournalFull = inr (λ is. absurd (cc))
memory_or_not StrangerEnd = inr (λ is. absurd (cc))
memory_or_not AlreadyHome = inr (λ is. absurd (cc))
memory_or_not UnknownHome = inr (λ is. absurd (cc))
memory_or_not Behind = inr (λ is. absurd (cc))
memory_or_not Oversize = inr (λ is. absurd (cc))
memory_or_not UnknownTag = inr (λ is. absurd (cc))
memory_or_not BadCount = inr (λ is. absurd (cc))
memory_or_not TrailingBytes = inr (λ is. absurd (cc))
memory_or_not Truncated = inr (λ is. absurd (cc))
memory_or_not Script = inr (λ is. absurd (cc))
memory_or_not ReadFailed = inr (λ is. absurd (cc))
memory_or_not WriteFailed = inr (λ is. absurd (cc))

-- the protocol refuses a step so, where a call was refused as it is or for memory
shard_fault : (r : Result ShardStep Fault) (e : Fault) → (e ≡ Memory → ⊥) → shard.IsRefusalOf r e → fault_of r ≡ Some e
shard_fault (Ok s) e other memory = absurd (other memory)
shard_fault (Err f) e other is = ap Some (sym is)

session_fault : (r : Result SessionStep Fault) (e : Fault) → (e ≡ Memory → ⊥) → session.IsRefusalOf r e → fault_of r ≡ Some e
session_fault (Ok s) e other memory = absurd (other memory)
session_fault (Err f) e other is = ap Some (sym is)

module _ (top : TopologyValue) (node : ℕ) (journal : List ActorEvent) (sent : List Envelope) (outcomes : List (ℕ × Outcome)) (machine : Actor)
    (came : CameFrom top node journal sent outcomes machine) (x : ActorEvent) (e : Fault) where
  -- the state for which the machine stands refuses the event so
  refused_as : (is_strange top node x ≡ true → e ≡ StrangerEnd) → ((a : ActorState) → Stands top node machine a → refusal_at top node a x ≡ Some e) → Refuses top node journal x e
  refused_as stranger refused = record {
    stranger = stranger;
    refused = λ apart. let c = came.comes apart in (c.replay, c.replays, refused c.replay.state c.stands);
  }

  refused_or : (is_strange top node x ≡ true → e ≡ StrangerEnd)
      → ((e ≡ Memory → ⊥) → (a : ActorState) → Stands top node machine a → refusal_at top node a x ≡ Some e) → (e ≡ Memory) ⊎ Refuses top node journal x e
  refused_or stranger refused = elim (memory_or_not e) [
    | inl memory ↦ inl memory
    | inr other ↦ inr (refused_as stranger (refused other))
  ]

-- ## Shards

module _ (k : ShardKept) (top : TopologyValue) (node : ℕ) (journal : List ActorEvent) (sent : List Envelope) (outcomes : List (ℕ × Outcome))
    (came : CameFrom top node journal sent outcomes (actor.Shard k)) where
  pub shard_handle_refused : (f : Envelope) (e : Fault) → ((a : ShardState) → shard.Represents top node k a → shard.IsRefusalOf (shard_handle top node a f) e)
      → (e ≡ Memory) ⊎ Refuses top node journal (Handle f) e
  shard_handle_refused f e so = refused_or top node journal sent outcomes (actor.Shard k) came (Handle f) e (λ q. absurd (cc)) by
    where
      by : (e ≡ Memory → ⊥) → (a : ActorState) → Stands top node (actor.Shard k) a → refusal_at top node a (Handle f) ≡ Some e
      by other (OfShard a) stands = shard_fault (shard_handle top node a f) e other (so a stands)
      by other (OfSession a) stands = absurd stands

  -- a collection isn't strange to it
  not_strange : is_strange top node (Collect 0) ≡ true → ⊥
  not_strange q = let is : false ≡ true = sym (ap not came.kind) ∙ q in absurd (cc)

  pub shard_collect_refused : (time : ℕ) (e : Fault) → ((a : ShardState) → shard.Represents top node k a → shard_collect a time ≡ Err e)
      → (e ≡ Memory) ⊎ Refuses top node journal (Collect time) e
  shard_collect_refused time e so = refused_or top node journal sent outcomes (actor.Shard k) came (Collect time) e (λ q. absurd (not_strange q)) (λ other. by)
    where
      by : (a : ActorState) → Stands top node (actor.Shard k) a → refusal_at top node a (Collect time) ≡ Some e
      by (OfShard a) stands = ap fault_of (so a stands)
      by (OfSession a) stands = absurd stands

  pub shard_submit_refused : (o : Op) → (StrangerEnd ≡ Memory) ⊎ Refuses top node journal (Submit o) StrangerEnd
  shard_submit_refused o = inr (refused_as top node journal sent outcomes (actor.Shard k) came (Submit o) StrangerEnd (λ q. refl) by)
    where
      by : (a : ActorState) → Stands top node (actor.Shard k) a → refusal_at top node a (Submit o) ≡ Some StrangerEnd
      by (OfShard a) stands = refl
      by (OfSession a) stands = absurd stands

-- ## Sessions

module _ (k : SessionKept) (w : Bool) (ended : Option (ℕ × Outcome)) (top : TopologyValue) (node : ℕ) (journal : List ActorEvent) (sent : List Envelope)
    (outcomes : List (ℕ × Outcome)) (came : CameFrom top node journal sent outcomes (actor.Session k w ended)) where
  pub session_handle_refused : (f : Envelope) (e : Fault) → ((a : SessionState) → session.Represents k top a → session.IsRefusalOf (session_handle top k.node a f) e)
      → (e ≡ Memory) ⊎ Refuses top node journal (Handle f) e
  session_handle_refused f e so = refused_or top node journal sent outcomes (actor.Session k w ended) came (Handle f) e (λ q. absurd (cc)) by
    where
      by : (e ≡ Memory → ⊥) → (a : ActorState) → Stands top node (actor.Session k w ended) a → refusal_at top node a (Handle f) ≡ Some e
      by other (OfShard a) stands = absurd stands
      by other (OfSession a) stands =
          session_fault (session_handle top node a f) e other (subst (λ n. session.IsRefusalOf (session_handle top n a f) e) stands.0 (so a stands.1))

  -- a submission isn't strange to it
  no_shard : is_shard top node ≡ true → ⊥
  no_shard q = let is : false ≡ true = sym came.kind ∙ q in absurd (cc)

  pub session_submit_refused : (o : Op) (e : Fault) → ((a : SessionState) → session.Represents k top a → session.IsRefusalOf (session_submit top k.node a o) e)
      → (e ≡ Memory) ⊎ Refuses top node journal (Submit o) e
  session_submit_refused o e so = refused_or top node journal sent outcomes (actor.Session k w ended) came (Submit o) e (λ q. absurd (no_shard q)) by
    where
      by : (e ≡ Memory → ⊥) → (a : ActorState) → Stands top node (actor.Session k w ended) a → refusal_at top node a (Submit o) ≡ Some e
      by other (OfShard a) stands = absurd stands
      by other (OfSession a) stands =
          session_fault (session_submit top node a o) e other (subst (λ n. session.IsRefusalOf (session_submit top n a o) e) stands.0 (so a stands.1))

  pub session_collect_refused : (time : ℕ) → (StrangerEnd ≡ Memory) ⊎ Refuses top node journal (Collect time) StrangerEnd
  session_collect_refused time = inr (refused_as top node journal sent outcomes (actor.Session k w ended) came (Collect time) StrangerEnd (λ q. refl) by)
    where
      by : (a : ActorState) → Stands top node (actor.Session k w ended) a → refusal_at top node a (Collect time) ≡ Some StrangerEnd
      by (OfShard a) stands = absurd stands
      by (OfSession a) stands = refl
