-- One shard is right: what it sent is right against all that it applied, later events included.
use Rattle.std.proofs.Common.{◌≡◌, ◌∙◌, sym, ap, subst, refl, ℕ, ◌⊎◌, inl, inr, List, [], ◌∷◌, ◌++◌, append-nil, arith}
use Rattle.std.specs.Prelude.{Contains}
use Rattle.std.proofs.lemmas.List.{append_assoc}
use Rattle.std.proofs.lemmas.List.Elements.{Contains-append_right}
use Rattle.slice.specs.declared.read.Read.{Read}
use Rattle.store.specs.declared.part.Applied.{Applied}
use Rattle.store.specs.Part.{IsRightPart}
use Rattle.store.specs.Keeps.{AreApart}
use Rattle.store.proofs.times.FromEvt.{right_from_evt}
use Rattle.messages.specs.declared.rows_now.RowNow.{RowNow}
use Rattle.messages.specs.declared.rows_at.RowAt.{RowAt}
use Rattle.messages.specs.declared.envelope.Envelope.{Envelope}
use Rattle.messages.specs.Topology.{TopologyValue}
use Rattle.messages.specs.Shard.{ShardState}
use Rattle.slice.specs.Rows.{row_of}
use Rattle.messages.specs.Honest.{IsHonest}
use Rattle.messages.specs.declared.rows_at.AtTime.TheVariants as at_time
use Rattle.messages.specs.declared.body.Body.{Body}
use Rattle.messages.specs.declared.body.Body.TheVariants as body
use Rattle.messages.specs.Actors.{envelope_of}
use Rattle.store.proofs.lists.Lists.{none_in_empty, contains_first, given}
use Rattle.messages.specs.declared.event.ActorEvent.{ActorEvent}
use Rattle.messages.specs.declared.event.ActorEvent.TheVariants.{Handle}
use Rattle.shard.specs.Events.{ShardRun, fresh_shard, shard_run, envelopes_handled}
use Rattle.shard.specs.Right.{part_now, part_then, IsRightNow, IsRightAt, IsSentBy, CausesAt, IsAppliedAsDecided, IsRightShard}
use Rattle.shard.specs.Sound.{Seen, RowNowSound, RowAtSound, NowSound, AtSound, BodySound, Holds, GivenUpSound}
use Rattle.shard.proofs.knowing.Grow.{now_grows, at_grows}
use Rattle.shard.proofs.lists.Lists.{each_contained}
use Rattle.store.proofs.newest.Untouched.{right_stays}
use Rattle.shard.proofs.steps.Within.{within_itself}
use Rattle.shard.proofs.steps.Handles.{AreAmong}
use Rattle.shard.proofs.knowing.Asked.{IsWaitingFor, IsTaken, seen_at, asked_so}
use Rattle.shard.proofs.right.Run.{RanOn, SentAt, continued_ran, sent_at, fresh_ran}

row_now_right : (es : List Envelope) (a : ShardState) (read : Read) (r : RowNow) → AreApart a.applied → RowNowSound es a read r → IsRightNow a.applied read r
row_now_right es a read r apart s time from to =
    let c = s.complete in
    let row = row_of read r.key in
    subst (λ (xs : List Applied). IsRightPart xs row read.predicate time (part_now r)) (sym c.split)
    (right_stays s.seen c.later row read.predicate time (part_now r) (subst AreApart c.split apart)
    (λ x has touches. (let lt = c.above x has touches in omega (arith, to, lt)))
    (right_from_evt s.seen row read.predicate time (part_now r) s.stamped_apart s.newest from))

row_at_right : (es : List Envelope) (a : ShardState) (read : Read) (time : ℕ) (r : RowAt) → AreApart a.applied → RowAtSound es a read time r → IsRightAt a.applied read time r
row_at_right es a read time r apart s =
    let c = s.complete in
    let row = row_of read r.key in
    subst (λ (xs : List Applied). IsRightPart xs row read.predicate time (part_then r)) (sym c.split)
    (right_stays s.seen c.later row read.predicate time (part_then r) (subst AreApart c.split apart) c.above s.right)

-- what caused an answer at a time: it was asked at the event that sent it, or waited until then
at_cause : (top : TopologyValue) (me : ℕ) (events before rest : List ActorEvent) (event : ActorEvent) (e : Envelope) (number time : ℕ) (read : Read)
    → events ≡ before ++ event ∷ rest → IsSentBy top me before event e
    → IsWaitingFor top me before e.to number time read ⊎ IsTaken top me before event e.to number time read
    → (asked : Envelope) × CausesAt top me events asked number e × (asked.from ≡ e.to) × (asked.body ≡ body.ReadAt number time read)
at_cause top me events before rest event e number time read split sent (inl k) = (
  k.asked,
  record {
    before = k.before;
    after = k.after ++ event ∷ rest;
    split = split ∙ ap (λ l. l ++ event ∷ rest) k.split ∙ append_assoc k.before (Handle k.asked ∷ k.after) (event ∷ rest);
    taken = k.taken;
    answered = inr (record {
      between = k.after;
      event = event;
      rest = rest;
      split = refl;
      waits = k.waits;
      sent = subst (λ l. IsSentBy top me l event e) k.split sent;
    });
  },
  k.from,
  k.body,
)
at_cause top me events before rest event e number time read split sent (inr k) = (
  k.asked,
  record {
    before = before;
    after = rest;
    split = split ∙ ap (λ x. before ++ x ∷ rest) k.event;
    taken = k.taken;
    answered = inl (subst (λ x. IsSentBy top me before x e) k.event sent);
  },
  k.from,
  k.body,
)

-- ## What is known

-- among these envelopes this session's says so
abbrev pub IsSaid : List Envelope → ℕ → Body → Type 0
IsSaid es session b = (e : Envelope) × Contains es e × (e.from ≡ session) × (e.body ≡ b)

-- the reads that these envelopes ask
abbrev pub asked_in : List Envelope → Seen
asked_in es =
    record {
      envelopes = es;
      asks_now = λ session number read. IsSaid es session (body.Read number read);
      asks_at = λ session number time read. IsSaid es session (body.ReadAt number time read);
    }

-- What is known of a shard in this state that sent these, judged by envelopes that may be more than it handled: all that
-- holds of the state, and what each answer rests on.
pub record Knows (top : TopologyValue) (me : ℕ) (es : List Envelope) (a : ShardState) (sent : List Envelope) : Type 0 where
  pub holds : Holds top me a (asked_in es) a
  pub says : (e : Envelope) → Contains sent e → BodySound (asked_in es) a e.to e.body

-- These envelopes are honest, and the shard handled some of them.
module _ (top : TopologyValue) (me : ℕ) (events : List ActorEvent) (es : List Envelope) (honest : IsHonest (shard_run top me events).state es)
    (all : AreAmong (envelopes_handled (shard_run top me events)) es) where
  abbrev w : ShardRun
  w = shard_run top me events

  whole : RanOn top me w.state es honest fresh_shard w
  whole = continued_ran top me w.state es honest events fresh_shard (within_itself w.state) all (fresh_ran top me w.state es)

  sent : (e : Envelope) → Contains w.sent e → SentAt top me w.state es honest w e
  sent e has = elim (sent_at top me w.state es honest events fresh_shard (within_itself w.state) all (fresh_ran top me w.state es) e has) [
    | inl none ↦ absurd (none_in_empty e none)
    | inr s ↦ s
  ]

  sound : (e : Envelope) (s : SentAt top me w.state es honest w e) (b : Body) → e.body ≡ b
      → BodySound (seen_at top me es s.before.events s.event) s.step.state e.to b
  sound e s b is =
      subst (BodySound (seen_at top me es s.before.events s.event) s.step.state e.to) is
      (each_contained (λ (z : Envelope). BodySound (seen_at top me es s.before.events s.event) s.step.state z.to z.body) s.step.sends s.able.sends e s.sends)

  -- what an event of the run handled
  handled_in : (xs ys : List ActorEvent) (e : Envelope) → w.events ≡ xs ++ Handle e ∷ ys → Contains es e
  handled_in xs ys e split =
      all e
      (given envelope_of w.events (Handle e) e
      (subst (λ l. Contains l (Handle e)) (sym split) (Contains-append_right xs (Handle e ∷ ys) (Handle e) (contains_first (Handle e) ys))) refl)

  waits_in : (xs ys : List ActorEvent) (session number time : ℕ) (read : Read) → w.events ≡ xs ++ ys → IsWaitingFor top me xs session number time read
      → IsSaid es session (body.ReadAt number time read)
  waits_in xs ys session number time read split k = (
    k.asked,
    handled_in k.before (k.after ++ ys) k.asked (split ∙ ap (λ l. l ++ ys) k.split ∙ append_assoc k.before (Handle k.asked ∷ k.after) ys),
    k.from,
    k.body,
  )

  at_in : (e : Envelope) (s : SentAt top me w.state es honest w e) (number time : ℕ) (read : Read)
      → IsWaitingFor top me s.before.events e.to number time read ⊎ IsTaken top me s.before.events s.event e.to number time read
      → IsSaid es e.to (body.ReadAt number time read)
  at_in e s number time read (inl waits) = waits_in s.before.events (s.event ∷ s.rest) e.to number time read s.split waits
  at_in e s number time read (inr k) =
      (k.asked, handled_in s.before.events s.rest k.asked (s.split ∙ ap (λ x. s.before.events ++ x ∷ s.rest) k.event), k.from, k.body)

  -- what the event of an envelope says of it holds of the last state
  says_last : (e : Envelope) (s : SentAt top me w.state es honest w e) (b : Body)
      → BodySound (seen_at top me es s.before.events s.event) s.step.state e.to b → BodySound (asked_in es) w.state e.to b
  says_last e s (body.PartNow number rows) k =
      record {
        read = k.read;
        asked = (
          k.asked.asked,
          handled_in s.before.events s.rest k.asked.asked (s.split ∙ ap (λ x. s.before.events ++ x ∷ s.rest) k.asked.event),
          k.asked.from,
          k.asked.body,
        );
        keys = k.keys;
        each = λ r in_it. now_grows s.grows (k.each r in_it);
      }
  says_last e s (body.PartAt number time (at_time.Rows rows)) k =
      record {
        read = k.read;
        asked = at_in e s number time k.read k.asked;
        keys = k.keys;
        each = λ r in_it. at_grows s.grows (k.each r in_it);
      }
  says_last e s (body.PartAt number time at_time.Collected) k =
      record { low = (let before = k.low in let low = s.grows.low in omega arith); read = k.read; asked = at_in e s number time k.read k.asked }
  says_last e s other k = tt

  pub shard_knows : Knows top me es w.state w.sent
  shard_knows =
      record {
        holds =
            asked_so (λ session number read. ⊥) (λ session number read. IsSaid es session (body.Read number read))
            (λ session number time read. IsWaitingFor top me w.events session number time read)
            (λ session number time read. IsSaid es session (body.ReadAt number time read)) w.state
            (λ x has k. waits_in w.events [] x.session x.number x.time x.read (sym (append-nil w.events)) k) whole.ran.holds;
        says = λ e has. let s = sent e has in says_last e s e.body (sound e s e.body refl);
      }

  apart : AreApart w.state.applied
  apart = whole.ran.holds.stamped_apart

  by_event : (e : Envelope) (s : SentAt top me w.state es honest w e) → IsSentBy top me s.before.events s.event e
  by_event e s =
      record {
        sends = s.step.sends;
        added =
            ap (λ (r : ShardRun). r.sent) s.now
            ∙ ap (λ (r : ShardRun). r.sent ++ s.step.sends) (sym s.ran.replayed);
        has = s.sends;
      }

  -- where its parts are applied as decided
  judged_right : ((x : Applied) → Contains w.state.applied x → IsAppliedAsDecided w.state (envelopes_handled w) x) → IsRightShard top me w
  judged_right applied =
      record {
        apart = apart;
        applied = applied;
        now = λ e number rows has is. (
            let s = sent e has in
            let k : NowSound (seen_at top me es s.before.events s.event) s.step.state e.to number rows = sound e s (body.PartNow number rows) is in
            record {
              asked = k.asked.asked;
              read = k.read;
              cause = record {
                before = s.before.events;
                after = s.rest;
                split = s.split ∙ ap (λ x. s.before.events ++ x ∷ s.rest) k.asked.event;
                sent = subst (λ x. IsSentBy top me s.before.events x e) k.asked.event (by_event e s);
              };
              from = k.asked.from;
              body = k.asked.body;
              keys = k.keys;
              right = λ r in_it. row_now_right es w.state k.read r apart (now_grows s.grows (k.each r in_it));
            });
        then = λ e number time rows has is. (
            let s = sent e has in
            let k : AtSound (seen_at top me es s.before.events s.event) s.step.state e.to number time rows = sound e s (body.PartAt number time (at_time.Rows rows)) is in
            let c = at_cause top me w.events s.before.events s.rest s.event e number time k.read s.split (by_event e s) k.asked in
            record {
              asked = c.0;
              read = k.read;
              cause = c.1;
              from = c.2;
              body = c.3;
              keys = k.keys;
              right = λ r in_it. row_at_right es w.state k.read time r apart (at_grows s.grows (k.each r in_it));
            });
        collected = λ e number time has is. (
            let s = sent e has in
            let k : GivenUpSound (seen_at top me es s.before.events s.event) s.step.state e.to number time = sound e s (body.PartAt number time at_time.Collected) is in
            let lt = k.low in
            let low = s.grows.low in
            omega arith);
      }

-- with no envelopes but those that it handled
pub shard_is_right : (top : TopologyValue) (me : ℕ) (events : List ActorEvent) → IsHonest (shard_run top me events).state (envelopes_handled (shard_run top me events))
    → IsRightShard top me (shard_run top me events)
shard_is_right top me events honest =
    let es = envelopes_handled (shard_run top me events) in
    judged_right top me events es honest (λ e has. has) (whole top me events es honest (λ e has. has)).ran.holds.decided_so
