-- Which reads wait on a shard, and since when; and which reads an event asks.
use Rattle.std.proofs.Common.{◌≡◌, ◌∙◌, sym, ap, ap₂, refl, ℕ, ◌⊎◌, inl, inr, true, false, List, [], ◌∷◌, ◌++◌}
use Rattle.std.specs.Prelude.{Contains}
use Rattle.messages.specs.declared.body.Body.TheVariants as body
use Rattle.messages.specs.declared.envelope.Envelope.{Envelope}
use Rattle.messages.specs.Topology.{TopologyValue}
use Rattle.messages.specs.Shard.{ShardState, WaitingRead}
use Rattle.messages.specs.Reads.{is_waiting}
use Rattle.slice.specs.declared.read.Read.{Read}
use Rattle.messages.specs.declared.event.ActorEvent.{ActorEvent}
use Rattle.messages.specs.declared.event.ActorEvent.TheVariants.{Handle}
use Rattle.shard.specs.Events.{shard_run}
use Rattle.shard.specs.Sound.{Seen, Holds}

-- ## Who waits, and since when

-- after these events the read that this session numbered so waits, since this ReadAt was handled
pub record IsWaitingFor (top : TopologyValue) (me : ℕ) (events : List ActorEvent) (session number time : ℕ) (read : Read) : Type 0 where
  pub asked : Envelope
  pub before : List ActorEvent
  pub after : List ActorEvent
  pub split : events ≡ before ++ Handle asked ∷ after
  pub from : asked.from ≡ session
  pub body : asked.body ≡ body.ReadAt number time read
  pub taken : is_waiting (shard_run top me before).state asked.from number ≡ false
  pub waits : (xs ys : List ActorEvent) → after ≡ xs ++ ys → is_waiting (shard_run top me (before ++ Handle asked ∷ xs)).state asked.from number ≡ true

-- the event is this ReadAt, and no read of its session and number waits
pub record IsTaken (top : TopologyValue) (me : ℕ) (events : List ActorEvent) (x : ActorEvent) (session number time : ℕ) (read : Read) : Type 0 where
  pub asked : Envelope
  pub event : x ≡ Handle asked
  pub from : asked.from ≡ session
  pub body : asked.body ≡ body.ReadAt number time read
  pub taken : is_waiting (shard_run top me events).state asked.from number ≡ false

-- the event is this Read
pub record IsAsked (x : ActorEvent) (session number : ℕ) (read : Read) : Type 0 where
  pub asked : Envelope
  pub event : x ≡ Handle asked
  pub from : asked.from ≡ session
  pub body : asked.body ≡ body.Read number read

-- what the shard is asked after these events, and at a further one
abbrev pub seen_after : TopologyValue → ℕ → List Envelope → List ActorEvent → Seen
seen_after top me es events =
    record { envelopes = es; asks_now = λ session number read. ⊥; asks_at = λ session number time read. IsWaitingFor top me events session number time read }

abbrev pub seen_at : TopologyValue → ℕ → List Envelope → List ActorEvent → ActorEvent → Seen
seen_at top me es events x =
    record {
      envelopes = es;
      asks_now = λ session number read. IsAsked x session number read;
      asks_at = λ session number time read. IsWaitingFor top me events session number time read ⊎ IsTaken top me events x session number time read;
    }

-- the same holds where the reads that wait are asked in another way
pub asked_so : {top : TopologyValue} {me : ℕ} {last : ShardState} {es : List Envelope} (now now' : (session number : ℕ) (read : Read) → Type 0)
    (at at' : (session number time : ℕ) (read : Read) → Type 0) (a : ShardState)
    → ((x : WaitingRead) → Contains a.waiting x → at x.session x.number x.time x.read → at' x.session x.number x.time x.read)
    → Holds top me last (record { envelopes = es; asks_now = now; asks_at = at }) a
    → Holds top me last (record { envelopes = es; asks_now = now'; asks_at = at' }) a
asked_so now now' at at' a f h =
    record {
      sides = h.sides;
      one = h.one;
      readied = h.readied;
      own = h.own;
      origin = h.origin;
      prepared = h.prepared;
      ballots = h.ballots;
      kept_parts = h.kept_parts;
      kept_ballots = h.kept_ballots;
      stamped_apart = h.stamped_apart;
      met = h.met;
      decided_so = h.decided_so;
      waiting = λ x has. (let s = h.waiting x has in record { asked = f x has s.asked; clock = s.clock; settled = s.settled });
    }

pub begins_or_all : {X : Type 0} (xs ys zs : List X) (x : X) → zs ++ x ∷ [] ≡ xs ++ ys → ((us : List X) × (zs ≡ xs ++ us)) ⊎ (xs ≡ zs ++ x ∷ [])
begins_or_all [] ys zs x e = inl (zs, refl)
begins_or_all (v ∷ xs) ys [] x e =
    let head : x ≡ v = cc in
    let rest : [] ≡ xs ++ ys = cc in
    inr (none xs rest ∙ ap (λ z. z ∷ []) (sym head))
  where
    none : (us : List _) → [] ≡ us ++ ys → v ∷ us ≡ v ∷ []
    none [] q = refl
    none (u ∷ us) q = absurd (cc)
begins_or_all (v ∷ xs) ys (z ∷ zs) x e =
    let head : z ≡ v = cc in
    let rest : zs ++ x ∷ [] ≡ xs ++ ys = cc in
    elim (begins_or_all xs ys zs x rest) [
      | inl r ↦ inl (r.0, ap₂ (λ u us. u ∷ us) head r.1)
      | inr r ↦ inr (ap₂ (λ u us. u ∷ us) (sym head) r)
    ]
