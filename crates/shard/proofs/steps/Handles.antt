-- What one envelope and one event make of a shard: what is known goes on holding.
use Rattle.std.proofs.Common.{◌≡◌, ◌∙◌, inl, inr, ◌≤◌, sym, ap, subst, refl, ℕ, ◌+◌, ◌^◌, ◌<◌, max, Bool, true, false, nat_lt, List, [], ◌∷◌, ◌++◌, Option, Some, None, Result, Ok, Err, arith}
use Rattle.std.specs.Prelude.{filter, is_some, if◌then◌else◌, Contains}
use Rattle.std.proofs.lemmas.List.Elements.{Contains-append_left}
use Rattle.column_family.specs.Normal.{IsNormal}
use Rattle.logical_time.specs.declared.fault.Fault.{Fault}
use Rattle.store.proofs.lists.Lists.{given, given_only}
use Rattle.messages.specs.declared.body.Body.{Body}
use Rattle.messages.specs.declared.body.Body.TheVariants as body
use Rattle.messages.specs.declared.envelope.Envelope.{Envelope}
use Rattle.messages.specs.Topology.{TopologyValue}
use Rattle.messages.specs.Clock.{ticked, on_clock}
use Rattle.messages.specs.Shard.{ShardState, ShardStep, Cohort, Replica, BegunBallot}
use Rattle.messages.specs.Known.{decision_of}
use Rattle.messages.specs.Commits.{with_vote}
use Rattle.messages.specs.Replication.{with_notice}
use Rattle.messages.specs.Words.{is_same_txn, envelope}
use Rattle.logical_time.specs.Stamps.{StampValue, TxnValue}
use Rattle.messages.specs.Reads.{is_waiting}
use Rattle.slice.specs.declared.read.Read.{Read}
use Rattle.messages.specs.ShardEvents.{handled, shard_handle, collected, shard_collect}
use Rattle.messages.specs.Actors.{envelope_of}
use Rattle.logical_time.specs.declared.fault.Fault.TheVariants.{Busy}
use Rattle.messages.specs.Honest.{told_in, part_in, IsHonest}
use Rattle.messages.specs.declared.event.ActorEvent.{ActorEvent}
use Rattle.messages.specs.declared.event.ActorEvent.TheVariants.{Submit, Handle, Collect}
use Rattle.shard.specs.Events.{ShardRun, after_step, after_event, shard_continued, envelopes_handled}
use Rattle.shard.specs.Sound.{Seen, Holds, Able, IsWithin}
use Rattle.shard.proofs.knowing.LetGo.{able_after, quiet_able, answer_able}
use Rattle.shard.proofs.steps.HandledCases.{IsTelling, begun, copied, with_early, with_asker, StepOf, still, begin_decides, begin_holds, prepares, vote_decides, vote_counts, vote_early, applies, lets_go, tells_commit, tells_none, reads_now, reads_collected, reads_at, waits, readies, notice_early, keeps_part, prepares_replica, tells_decided, remembers, handled_cases}
use Rattle.shard.proofs.knowing.Updates.{aside, more_notices}
use Rattle.shard.proofs.steps.Commits.{unknown_unled, unknown_unfollowed, undecided_none, decide_able, hold_able, prepare_part_able}
use Rattle.shard.proofs.steps.Votes.{IsTold, apply_able, not_by_able}
use Rattle.shard.proofs.steps.ReadSteps.{read_able, collected_able, read_at_able, wait_able}
use Rattle.shard.proofs.steps.Remotes.{brings_able, keeps_part_able}
use Rattle.shard.proofs.steps.Within.{within_then, within_itself, handled_within, collected_within}

-- ## An envelope is handled

pub handled_able : (top : TopologyValue) (me : ℕ) (last : ShardState) (es : Seen) (a : ShardState) (n : ℕ) (e : Envelope) → IsHonest last es.envelopes → a.clock < n → e.time < n
    → Contains es.envelopes e → IsWithin a last → Holds top me last es a
    → ((number : ℕ) (read : Read) → e.body ≡ body.Read number read → es.asks_now e.from number read)
    → ((number time : ℕ) (read : Read) → e.body ≡ body.ReadAt number time read → is_waiting a e.from number ≡ false → es.asks_at e.from number time read)
    → (m : Body) → e.body ≡ m → IsWithin (handled top me n a e.from m).state last → Able top me last es a (handled top me n a e.from m)
handled_able top me last es a n e honest lt late has before h now at m is within =
    by_case m (handled top me n a e.from m) (handled_cases top me n a e.from m) is within
  where
    normal : (m : Body) → e.body ≡ m → IsNormal (part_in m)
    normal m is = subst (λ z. IsNormal (part_in z)) is (honest.parts e has)

    -- what a commit tells was told
    told : (m : Body) (t : TxnValue) (commit : ℕ) (stamp : StampValue) → IsTelling m t commit stamp → e.body ≡ m → IsTold es.envelopes t commit stamp
    told m t commit stamp tells is = (
      e.time,
      given (λ (z : Envelope). told_in z.time z.body) es.envelopes e (record { txn = t; commit = commit; stamp = stamp; time = e.time }) has
          (elim tells [ inl q ↦ ap (told_in e.time) (is ∙ q) | inr q ↦ ap (told_in e.time) (is ∙ q) ]),
    )

    asked_before : (number time : ℕ) (read : Read) → e.body ≡ body.ReadAt number time read → time ≤ n
    asked_before number time read is = let le = honest.read e number time read has is in omega (arith, late, le)

    -- a vote is counted first
    voted : (b : BegunBallot) (st : ShardStep) → (Holds top me last es (with_vote a b.txn e.from) → Able top me last es (with_vote a b.txn e.from) st)
        → Able top me last es a st
    voted b st next = able_after (aside a a.clock a.low a.early (with_vote a b.txn e.from).votes a.askers (omega arith) (omega arith) h) next

    by_case : (m : Body) (st : ShardStep) → StepOf top me n a e.from m st → e.body ≡ m → IsWithin st.state last → Able top me last es a st
    by_case m st (still none) is within = quiet_able a n (omega (arith, lt)) h
    by_case m st (begin_decides t rows cohorts dependencies new all) is within =
        decide_able a n (begun t rows cohorts dependencies) honest lt (normal _ is) (unknown_unfollowed t a new) (λ d. unknown_unled t a new (inr (inl d)))
        (λ r kept same. absurd (unknown_unled t a new (inr (inr (r, kept, same))))) within h
    by_case m st (begin_holds t rows cohorts dependencies new some) is within =
        hold_able a n (begun t rows cohorts dependencies) (filter (λ v. is_same_txn v.txn t) a.early) [] lt (normal _ is) (unknown_unfollowed t a new)
        (λ r kept same. absurd (unknown_unled t a new (inr (inr (r, kept, same))))) (λ c. tt) h
    by_case m st (prepares t rows coordinator new) is within =
        prepare_part_able a n t rows coordinator Cohort lt (normal _ is) (λ q. absurd (cc)) (unknown_unled t a new) h
    by_case m st (vote_decides t b stands awaited all) is within =
        voted b _
        (λ h1. decide_able (with_vote a b.txn e.from) n b honest lt (h.ballots b stands.among) (λ followed. h1.sides b.txn (inl (b, stands.among, refl)) followed)
        (undecided_none b.txn (with_vote a b.txn e.from) (subst (λ u. is_some (decision_of u a) ≡ false) (sym stands.txn) stands.undecided))
        (λ r kept same. h1.readied r kept (inl (b, stands.among, sym same))) within h1)
    by_case m st (vote_counts t b stands awaited some) is within = voted b _ (λ h1. quiet_able (with_vote a b.txn e.from) n (omega (arith, lt)) h1)
    by_case m st (vote_early t none new first) is within =
        record { onward = aside a n a.low (with_early a t e.from).early a.votes a.askers (omega (arith, lt)) (omega arith) h; sends = tt }
    by_case m st (applies t commit stamp tells p there same theirs new) is within =
        apply_able a n p commit stamp honest lt there theirs new
        (subst (λ u. IsTold es.envelopes u commit stamp) (sym same) (told m t commit stamp tells is)) before h
    by_case m st (lets_go t time) is within = not_by_able a n e.from t time e honest lt has is h
    by_case m st (tells_commit t time d there same) is within =
        answer_able a n (envelope me e.from n (body.At t d.commit d.stamp)) (omega (arith, lt)) tt h
    by_case m st (tells_none t time none) is within = answer_able a n (envelope me e.from n (body.NotBy t time)) (omega (arith, lt)) tt h
    by_case m st (reads_now number read) is within = read_able a n number read e lt (now number read is) h
    by_case m st (reads_collected number time read new low) is within = collected_able a n number time read e low lt (at number time read is new) h
    by_case m st (reads_at number time read new above none) is within =
        read_at_able a n number time read e none lt (asked_before number time read is) (at number time read is new) h
    by_case m st (waits number time read new above w ws some) is within =
        wait_able w ws a n number time read e some lt (asked_before number time read is) (at number time read is new) h
    by_case m st (readies brings step) is within = brings_able a n e.from m _ _ _ _ brings step honest lt (normal m is) within h
    by_case m st (notice_early t none new first) is within =
        able_after (more_notices a (record { txn = t; node = e.from }) h) (λ h1. quiet_able (with_notice a t e.from) n (omega (arith, lt)) h1)
    by_case m st (keeps_part t rows stamp coordinator new) is within = keeps_part_able a n (copied t rows stamp coordinator) new lt (normal _ is) h
    by_case m st (prepares_replica t k there same new) is within =
        prepare_part_able a n k.txn k.rows k.coordinator Replica lt (h.kept_parts k there) (λ q. absurd (cc)) (λ led. h.sides k.txn led (inr (k, there, refl))) h
    by_case m st (tells_decided dependency waiter d there same) is within =
        answer_able a n (envelope me e.from n (body.DepOk dependency waiter d.commit)) (omega (arith, lt)) tt h
    by_case m st (remembers dependency waiter none new) is within =
        record { onward = aside a n a.low a.early a.votes (with_asker a dependency waiter e.from).askers (omega (arith, lt)) (omega arith) h; sends = tt }

-- ## Events

-- the clock of an event lies above both times
pub ticked_above : (clock time n : ℕ) → ticked clock time ≡ Some n → (clock < n) × (time < n)
ticked_above clock time n e = go (nat_lt (max clock time + 1) (2 ^ 48)) e
  where
    above : max clock time + 1 ≡ n → (clock < n) × (time < n)
    above same = (omega (arith, same), omega (arith, same))

    go : (b : Bool) → (if b then Some (max clock time + 1) else None) ≡ Some n → (clock < n) × (time < n)
    go true f = above (cc)
    go false f = absurd (cc)

-- the machine's step of an event; a submission is none of a shard's
abbrev pub event_step : TopologyValue → ℕ → ShardState → ActorEvent → Result ShardStep Fault
event_step top me a (Submit o) = Err Busy
event_step top me a (Handle e) = shard_handle top me a e
event_step top me a (Collect time) = shard_collect a time

pub by_step : (top : TopologyValue) (me : ℕ) (w : ShardRun) (x : ActorEvent) → after_event top me w x ≡ after_step (event_step top me w.state x) w x
by_step top me w (Submit o) = refl
by_step top me w (Handle e) = refl
by_step top me w (Collect time) = refl

-- all of these are among those
abbrev pub AreAmong : List Envelope → List Envelope → Type 0
AreAmong few many = (e : Envelope) → Contains few e → Contains many e

-- one event more
pub run_push : (top : TopologyValue) (me : ℕ) (r : ShardRun) (xs : List ActorEvent) (y : ActorEvent)
    → shard_continued top me r (xs ++ y ∷ []) ≡ after_event top me (shard_continued top me r xs) y
run_push top me r [] y = refl
run_push top me r (x ∷ xs) y = run_push top me (after_event top me r x) xs y

-- ## Lists of events

pub event_within : (top : TopologyValue) (me : ℕ) (w : ShardRun) (x : ActorEvent) → IsWithin w.state (after_event top me w x).state
event_within top me w (Submit o) = within_itself w.state
event_within top me w (Handle e) = go (ticked w.state.clock e.time)
  where
    go : (o : Option ℕ) → IsWithin w.state (after_step (on_clock o (λ n. handled top me n w.state e.from e.body)) w (Handle e)).state
    go None = within_itself w.state
    go (Some n) = handled_within top me n w.state e.from e.body
event_within top me w (Collect time) = go (ticked w.state.clock w.state.clock)
  where
    go : (o : Option ℕ) → IsWithin w.state (after_step (on_clock o (λ n. collected n w.state time)) w (Collect time)).state
    go None = within_itself w.state
    go (Some n) = collected_within n w.state time

events_stay : (r : Result ShardStep Fault) (w : ShardRun) (x : ActorEvent) → AreAmong (envelopes_handled w) (envelopes_handled (after_step r w x))
events_stay (Err f) w x e has = has
events_stay (Ok st) w x e has =
    let at = given_only envelope_of w.events e has in
    given envelope_of (w.events ++ x ∷ []) at.0 e (Contains-append_left w.events (x ∷ []) at.0 at.1) at.2

event_stays : (top : TopologyValue) (me : ℕ) (w : ShardRun) (x : ActorEvent) → AreAmong (envelopes_handled w) (envelopes_handled (after_event top me w x))
event_stays top me w x =
    subst (λ (v : ShardRun). AreAmong (envelopes_handled w) (envelopes_handled v)) (sym (by_step top me w x)) (events_stay (event_step top me w.state x) w x)

pub continued_within : (top : TopologyValue) (me : ℕ) (xs : List ActorEvent) (w : ShardRun) → IsWithin w.state (shard_continued top me w xs).state
continued_within top me [] w = within_itself w.state
continued_within top me (x ∷ xs) w =
    within_then (event_within top me w x) (continued_within top me xs (after_event top me w x))

pub continued_stay : (top : TopologyValue) (me : ℕ) (xs : List ActorEvent) (w : ShardRun) → AreAmong (envelopes_handled w) (envelopes_handled (shard_continued top me w xs))
continued_stay top me [] w e has = has
continued_stay top me (x ∷ xs) w e has =
    continued_stay top me xs (after_event top me w x) e (event_stays top me w x e has)
