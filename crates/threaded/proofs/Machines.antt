-- Shards and sessions as machines: one event more in the journal, and before the first.
use Rattle.std.proofs.Common.{append-nil, ◌≡◌, ◌∙◌, ℕ, ◌+◌, ◌-◌, ◌<◌, Bool, true, false, List, [], ◌∷◌, ◌++◌, map, length, Option, Some, None, Result, Ok, Err, ◌⊎◌, inl, inr, refl, sym, ap, subst, arith}
use Rattle.std.specs.Prelude.{not, if◌then◌else◌, filter_map, slice_get, option_to_list, option_and_then}
use Rattle.std.specs.List.{cons_option}
use Rattle.std.specs.Option.{unwrap_or}
use Rattle.std.proofs.lemmas.List.{append_assoc, length-append, map-append}
use Rattle.std.proofs.lemmas.Bool.Decides.{nat_tests}
use Rattle.std.proofs.lemmas.List.Elements.{filter_map-append}
use Rattle.logical_time.specs.declared.fault.Fault.{Fault}
use Rattle.messages.specs.declared.envelope.Envelope.{Envelope}
use Rattle.messages.specs.declared.outcome.Outcome.{Outcome}
use Rattle.messages.specs.declared.op.Op.{Op}
use Rattle.messages.specs.declared.event.ActorEvent.{ActorEvent}
use Rattle.messages.specs.declared.event.ActorEvent.TheVariants.{Submit, Handle, Collect}
use Rattle.messages.specs.Topology.{TopologyValue, shard_count, is_shard, node_count, home_of}
use Rattle.messages.specs.Shard.{ShardState, ShardStep, new_shard}
use Rattle.messages.specs.Session.{SessionState, SessionStep, new_session, is_idle}
use Rattle.messages.specs.ShardEvents.{shard_handle, shard_collect}
use Rattle.messages.specs.SessionEvents.{session_handle, session_taken}
use Rattle.messages.specs.Submitting.{session_submit}
use Rattle.messages.specs.Actors.{ActorState, OfShard, OfSession, opening_actor, ActorStep, of_shard, of_session, actor_step, Replayed, replay, replay_of}
use Rattle.shard.specs.declared.kept.ShardKept.{ShardKept}
use Rattle.shard.specs.Kept as shard
use Rattle.client.specs.declared.kept.SessionKept.{SessionKept}
use Rattle.client.specs.Represents as session
use Rattle.client.specs.State.{state_of, finished_of}
use Rattle.actors.specs.Journals.{op_in, submissions}
use Rattle.world.proofs.growing.Prefixes.{get_there}
use Rattle.world.proofs.steps.Moves.{counts_session, op_count, shard_took, session_took}
use Rattle.world.proofs.steps.Counted.{step_count}
use Rattle.world.proofs.replays.Replays.{unfolds, replay_push}
use Rattle.threaded.specs.declared.actor.Actor.{Actor}
use Rattle.threaded.specs.declared.actor.Actor.TheVariants as actor
use Rattle.threaded.specs.Machines.{HasPartsApart, StaysApart, is_of_shard, untaken_of, accepted_by, WaitsAsOpen, Stands, as_finished, IsReplay, CameFrom}
use Rattle.threaded.proofs.Ending.{TookOutcome, unfinished, waits_heard, waits_submitted, free_is}

-- ## Sessions stay sessions

session_stays : (top : TopologyValue) (me : ℕ) (a : SessionState) (x : ActorEvent) (s : ActorStep) → actor_step top me (OfSession a) x ≡ Some s
    → (b : SessionState) × (s.state ≡ OfSession b)
session_stays top me a x s q = go x q
  where
    by : (r : Result SessionStep Fault) → of_session r ≡ Some s → (b : SessionState) × (s.state ≡ OfSession b)
    by (Err e) h = absurd (cc)
    by (Ok st) h = let is : session_took st ≡ s = cc in (session_taken st.state, sym (ap (λ (z : ActorStep). z.state) is))

    go : (x : ActorEvent) → actor_step top me (OfSession a) x ≡ Some s → (b : SessionState) × (s.state ≡ OfSession b)
    go (Submit o) h = by (session_submit top me a o) h
    go (Handle e) h = by (session_handle top me a e) h
    go (Collect time) h = absurd (cc)

sessions_stay : (top : TopologyValue) (me : ℕ) (xs : List ActorEvent) (a : SessionState) (r : Replayed) → replay top me (OfSession a) xs ≡ Some r
    → (b : SessionState) × (r.state ≡ OfSession b)
sessions_stay top me [] a r h =
    let is : record { state = OfSession a; sent = []; finished = [] } ≡ r = cc in (a, sym (ap (λ (z : Replayed). z.state) is))
sessions_stay top me (x ∷ xs) a r h =
    let u = unfolds top me (OfSession a) x xs r h in
    let b = session_stays top me a x u.step u.takes in
    let t = sessions_stay top me xs b.0 u.rest (ap (λ z. replay top me z xs) (sym b.1) ∙ u.replays) in
    (t.0, sym (ap (λ (z : Replayed). z.state) u.whole) ∙ t.1)

pub opens_session : (top : TopologyValue) (node : ℕ) → is_shard top node ≡ false
    → opening_actor top node ≡ OfSession (new_session (unwrap_or (home_of top node) 0))
opens_session top node away = ap (λ b. if b then OfShard new_shard else OfSession (new_session (unwrap_or (home_of top node) 0))) away

pub session_apart : (top : TopologyValue) (node : ℕ) (journal : List ActorEvent) → is_shard top node ≡ false → StaysApart top node journal
session_apart top node journal away before after r q h =
    let b = sessions_stay top node before (new_session (unwrap_or (home_of top node) 0)) r (ap (λ a. replay top node a before) (sym (opens_session top node away)) ∙ h) in
    subst (λ a. HasPartsApart a) (sym b.1) tt

pub apart_before : (top : TopologyValue) (node : ℕ) (journal more : List ActorEvent) → StaysApart top node (journal ++ more) → StaysApart top node journal
apart_before top node journal more apart before after r q h =
    apart before (after ++ more) r (ap (λ l. l ++ more) q ∙ append_assoc before after more) h

-- ## One event more

-- what was in a list with one more at its end
last_or_inner : {X : Type 0} (xs : List X) (x : X) (before : List X) (y : X) (after : List X) → xs ++ x ∷ [] ≡ before ++ y ∷ after
    → ((before ≡ xs) × (y ≡ x)) ⊎ ((rest : List X) × (xs ≡ before ++ y ∷ rest))
last_or_inner [] x [] y after q = let same : y ≡ x = cc in inl (refl, same)
last_or_inner {X} [] x (z ∷ []) y after q = let none : [] ≡ y ∷ after = cc in absurd (cc)
last_or_inner {X} [] x (z ∷ w ∷ before) y after q = let none : [] ≡ w ∷ (before ++ y ∷ after) = cc in absurd (cc)
last_or_inner (z ∷ xs) x [] y after q = let same : z ≡ y = cc in inr (xs, ap (λ w. w ∷ xs) same)
last_or_inner (z ∷ xs) x (w ∷ before) y after q =
    let head : z ≡ w = cc in
    let tail : xs ++ x ∷ [] ≡ before ++ y ∷ after = cc in
    elim (last_or_inner xs x before y after tail) [
      | inl last ↦ inl (ap (λ l. w ∷ l) last.0 ∙ ap (λ v. v ∷ xs) (sym head), last.1)
      | inr inner ↦ inr (inner.0, ap (λ v. v ∷ xs) head ∙ ap (λ l. w ∷ l) inner.1)
    ]

-- where stamps stay apart, the machine did the step of the state that it stood for
pub record DidStep (top : TopologyValue) (node : ℕ) (x : ActorEvent) (new : Actor) (sent now : List Envelope) (a : ActorState) : Type 0 where
  pub step : ActorStep
  pub takes : actor_step top node a x ≡ Some step
  pub stands : HasPartsApart step.state → Stands top node new step.state
  pub sends : HasPartsApart step.state → now ≡ sent ++ step.sends
  pub finishes : step.finishes ≡ finished_of (untaken_of new)

as_list : {X : Type 0} (o : Option X) → cons_option o [] ≡ option_to_list o
as_list None = refl
as_list (Some x) = refl

module _ (top : TopologyValue) (node : ℕ) (journal : List ActorEvent) (before : List Envelope) (outcomes : List (ℕ × Outcome)) (old new : Actor) (x : ActorEvent)
    (sent now : List Envelope) (came : CameFrom top node journal (before ++ sent) outcomes old) (taken : untaken_of old ≡ None)
    (did : (a : ActorState) → Stands top node old a → DidStep top node x new sent now a) (waits : WaitsAsOpen new) where
  goes_on : (apart : StaysApart top node journal) → (r : Replayed) × (replay_of top node (journal ++ x ∷ []) ≡ Some r)
  goes_on apart =
      let c = came.comes apart in
      let d = did c.replay.state c.stands in
      (_, replay_push top node (opening_actor top node) journal x c.replay d.step c.replays d.takes)

  comes_so : StaysApart top node (journal ++ x ∷ []) → IsReplay top node (journal ++ x ∷ []) (before ++ now) outcomes new
  comes_so apart =
      let c = came.comes (apart_before top node journal (x ∷ []) apart) in
      let d = did c.replay.state c.stands in
      let replays = replay_push top node (opening_actor top node) journal x c.replay d.step c.replays d.takes in
      let here = apart (journal ++ x ∷ []) [] (record { state = d.step.state; sent = c.replay.sent ++ d.step.sends; finished = c.replay.finished ++ cons_option d.step.finishes [] })
      (sym (append-nil (journal ++ x ∷ []))) replays in
      record {
        replay = record { state = d.step.state; sent = c.replay.sent ++ d.step.sends; finished = c.replay.finished ++ cons_option d.step.finishes [] };
        replays = replays;
        stands = d.stands here;
        free = free_is top node new d.step.state waits (d.stands here);
        sends =
            ap (λ l. before ++ l) (d.sends here) ∙ sym (append_assoc before sent d.step.sends) ∙ ap (λ l. l ++ d.step.sends) c.sends;
        finishes =
            ap (λ l. l ++ cons_option d.step.finishes []) c.finishes
            ∙ ap (λ o. (map as_finished outcomes ++ option_to_list (finished_of o)) ++ cons_option d.step.finishes []) taken
            ∙ ap (λ l. l ++ cons_option d.step.finishes []) (append-nil (map as_finished outcomes))
            ∙ ap (λ o. map as_finished outcomes ++ cons_option o []) d.finishes
            ∙ ap (λ l. map as_finished outcomes ++ l) (as_list (finished_of (untaken_of new)));
      }

  pub one_more : is_of_shard new ≡ is_of_shard old → accepted_by new ≡ submissions (journal ++ x ∷ [])
      → CameFrom top node (journal ++ x ∷ []) (before ++ now) outcomes new
  one_more kind accepted =
      record {
        kind = came.kind ∙ sym kind;
        accepted = accepted;
        waits = waits;
        goes = λ b y after q apart. elim (last_or_inner journal x b y after q) [
          | inl last ↦
              let r = goes_on (subst (λ l. StaysApart top node l) last.0 apart) in
              (r.0, ap (λ l. replay_of top node (l ++ y ∷ [])) last.0 ∙ ap (λ z. replay_of top node (journal ++ z ∷ [])) last.1 ∙ r.1)
          | inr inner ↦ came.goes b y inner.0 inner.1 apart
        ];
        comes = comes_so;
      }

submissions_more : (journal : List ActorEvent) (x : ActorEvent) → submissions (journal ++ x ∷ []) ≡ submissions journal + submissions (x ∷ [])
submissions_more journal x = ap (λ l. length l) (filter_map-append op_in journal (x ∷ [])) ∙ length-append (filter_map op_in journal) (filter_map op_in (x ∷ []))

-- ## Shards

module _ (top : TopologyValue) (node : ℕ) (x : ActorEvent) (step : ShardState → Result ShardStep Fault)
    (same : (a : ShardState) → actor_step top node (OfShard a) x ≡ of_shard (step a)) (k l : ShardKept) (sent now : List Envelope)
    (does : (a : ShardState) → shard.Represents top node k a → shard.IsStepOf top node (step a) l sent now) where
  shard_did : (a : ActorState) → Stands top node (actor.Shard k) a → DidStep top node x (actor.Shard l) sent now a
  shard_did (OfSession a) stands = absurd stands
  shard_did (OfShard a) stands = go (step a) refl (does a stands)
    where
      go : (r : Result ShardStep Fault) → step a ≡ r → shard.IsStepOf top node r l sent now → DidStep top node x (actor.Shard l) sent now (OfShard a)
      go (Err e) q h = absurd h
      go (Ok s) q h =
          record {
            step = shard_took s;
            takes = same a ∙ ap of_shard q;
            stands = λ apart. (h apart).state;
            sends = λ apart. (h apart).sends;
            finishes = refl;
          }

  shard_came : op_in x ≡ None → (journal : List ActorEvent) (before : List Envelope) (outcomes : List (ℕ × Outcome))
      → CameFrom top node journal (before ++ sent) outcomes (actor.Shard k)
      → CameFrom top node (journal ++ x ∷ []) (before ++ now) outcomes (actor.Shard l)
  shard_came none journal before outcomes came =
      let count : submissions (x ∷ []) ≡ 0 = ap (λ o. length (cons_option o [])) none in
      let more = submissions_more journal x in
      let is : 0 ≡ submissions journal = came.accepted in
      one_more top node journal before outcomes (actor.Shard k) (actor.Shard l) x sent now came refl shard_did tt refl (omega arith)

pub shard_handled : (e : Envelope) (k l : ShardKept) (sent now : List Envelope)
    → ((top : TopologyValue) (me : ℕ) (a : ShardState) → shard.Represents top me k a → shard.IsStepOf top me (shard_handle top me a e) l sent now)
    → (top : TopologyValue) (node : ℕ) (journal : List ActorEvent) (before : List Envelope) (outcomes : List (ℕ × Outcome))
    → CameFrom top node journal (before ++ sent) outcomes (actor.Shard k)
    → CameFrom top node (journal ++ Handle e ∷ []) (before ++ now) outcomes (actor.Shard l)
shard_handled e k l sent now does top node journal before outcomes came =
    shard_came top node (Handle e) (λ a. shard_handle top node a e) (λ a. refl) k l sent now (does top node) refl journal before outcomes came

-- a collection sends nothing
kept_sends : {X : Type 0} (xs sends : List X) → [] ≡ [] ++ sends → xs ≡ xs ++ sends
kept_sends xs sends q = sym (append-nil xs) ∙ ap (λ l. xs ++ l) q

pub shard_collected : (time : ℕ) (k l : ShardKept) (sent : List Envelope)
    → ((top : TopologyValue) (me : ℕ) (a : ShardState) → shard.Represents top me k a → shard.IsStepOf top me (shard_collect a time) l [] [])
    → (top : TopologyValue) (node : ℕ) (journal : List ActorEvent) (before : List Envelope) (outcomes : List (ℕ × Outcome))
    → CameFrom top node journal (before ++ sent) outcomes (actor.Shard k)
    → CameFrom top node (journal ++ Collect time ∷ []) (before ++ sent) outcomes (actor.Shard l)
shard_collected time k l sent does top node journal before outcomes came =
    shard_came top node (Collect time) (λ a. shard_collect a time) (λ a. refl) k l sent sent
    (λ a stands. go (shard_collect a time) (does top node a stands)) refl journal before outcomes came
  where
    go : (r : Result ShardStep Fault) → shard.IsStepOf top node r l [] [] → shard.IsStepOf top node r l sent sent
    go (Err e) h = h
    go (Ok s) h = λ apart. record { state = (h apart).state; sends = kept_sends sent s.sends (h apart).sends }

pub shard_still : (k l : ShardKept) → shard.GoesOn k l
    → (top : TopologyValue) (node : ℕ) (journal : List ActorEvent) (sent : List Envelope) (outcomes : List (ℕ × Outcome))
    → CameFrom top node journal sent outcomes (actor.Shard k) → CameFrom top node journal sent outcomes (actor.Shard l)
shard_still k l still top node journal sent outcomes came =
    record {
      kind = came.kind;
      accepted = came.accepted;
      waits = tt;
      goes = came.goes;
      comes = λ apart. let c = came.comes apart in record {
        replay = c.replay;
        replays = c.replays;
        stands = go c.replay.state c.stands;
        free = c.free;
        sends = c.sends;
        finishes = c.finishes;
      };
    }
  where
    go : (a : ActorState) → Stands top node (actor.Shard k) a → Stands top node (actor.Shard l) a
    go (OfShard a) stands = still top node a stands
    go (OfSession a) stands = stands

pub shard_opens : (top : TopologyValue) (node : ℕ) (k : ShardKept) → is_shard top node ≡ true → shard.Represents top node k new_shard
    → CameFrom top node [] [] [] (actor.Shard k)
shard_opens top node k is represents =
    let here : Stands top node (actor.Shard k) (opening_actor top node) = subst (λ a. Stands top node (actor.Shard k) a)
    (sym (ap (λ b. if b then OfShard new_shard else OfSession (new_session (unwrap_or (home_of top node) 0))) is)) represents in
    record {
      kind = is;
      accepted = refl;
      waits = tt;
      goes = λ before x after q. none before x after q;
      comes = λ apart. record {
        replay = record { state = opening_actor top node; sent = []; finished = [] };
        replays = refl;
        stands = here;
        free = free_is top node (actor.Shard k) (opening_actor top node) tt here;
        sends = refl;
        finishes = refl;
      };
    }
  where
    none : (before : List ActorEvent) (x : ActorEvent) (after : List ActorEvent) → [] ≡ before ++ x ∷ after → StaysApart top node before
        → (r : Replayed) × (replay_of top node (before ++ x ∷ []) ≡ Some r)
    none [] x after q = absurd (cc)
    none (y ∷ before) x after q = absurd (cc)

-- ## Sessions

module _ (top : TopologyValue) (node : ℕ) (x : ActorEvent) (step : ℕ → SessionState → Result SessionStep Fault)
    (same : (a : SessionState) → actor_step top node (OfSession a) x ≡ of_session (step node a)) (k l m : SessionKept) (w v : Bool)
    (ended : Option (ℕ × Outcome)) (sent now : List Envelope)
    (does : (a : SessionState) → session.Represents k top a → session.IsStepOf (step k.node a) top l sent now)
    (node_stays : m.node ≡ k.node) (taken : (a : SessionState) → session.Represents l top a → session.Represents m top (session_taken a))
    (ends : ended ≡ l.untaken) (waits : (a : SessionState) (s : SessionStep) → WaitsAsOpen (actor.Session k w None) → step node a ≡ Ok s → a ≡ state_of k
    → s.state ≡ state_of l → WaitsAsOpen (actor.Session m v ended)) where
  session_did : (a : ActorState) → Stands top node (actor.Session k w None) a → DidStep top node x (actor.Session m v ended) sent now a
  session_did (OfShard a) stands = absurd stands
  session_did (OfSession a) stands =
      go (step node a) refl (subst (λ n. session.IsStepOf (step n a) top l sent now) stands.0 (does a stands.1))
    where
      go : (r : Result SessionStep Fault) → step node a ≡ r → session.IsStepOf r top l sent now
          → DidStep top node x (actor.Session m v ended) sent now (OfSession a)
      go (Err e) q h = absurd h
      go (Ok s) q h =
          record {
            step = session_took s;
            takes = same a ∙ ap of_session q;
            stands = λ apart. (node_stays ∙ stands.0, taken s.state h.state);
            sends = λ apart. h.sends;
            finishes = ap (λ (z : SessionState). z.untaken) h.state.state ∙ ap finished_of (sym ends);
          }

  counted : (a : ActorState) → Stands top node (actor.Session k w None) a → m.count ≡ k.count + submissions (x ∷ [])
  counted (OfShard a) stands = absurd stands
  counted (OfSession a) stands =
      let d = session_did (OfSession a) stands in
      let b = session_stays top node a x d.step d.takes in
      let now_stands = subst (λ z. Stands top node (actor.Session m v ended) z) b.1 (d.stands (subst (λ z. HasPartsApart z) (sym b.1) tt)) in
      let more = step_count top node (OfSession a) x d.step d.takes in
      let old : a.count ≡ k.count = ap (λ (z : SessionState). z.count) stands.1.state in
      let new : b.0.count ≡ m.count = ap (λ (z : SessionState). z.count) now_stands.1.state in
      let after : op_count d.step.state ≡ b.0.count = ap op_count b.1 in
      sym new ∙ sym after ∙ more ∙ ap (λ z. z + submissions (x ∷ [])) old

  waits_now : WaitsAsOpen (actor.Session k w None) → (a : ActorState) → Stands top node (actor.Session k w None) a → WaitsAsOpen (actor.Session m v ended)
  waits_now tied (OfShard a) stands = absurd stands
  waits_now tied (OfSession a) stands = go (step node a) refl (subst (λ n. session.IsStepOf (step n a) top l sent now) stands.0 (does a stands.1))
    where
      go : (r : Result SessionStep Fault) → step node a ≡ r → session.IsStepOf r top l sent now → WaitsAsOpen (actor.Session m v ended)
      go (Err e) q h = absurd h
      go (Ok s) q h = waits a s tied q stands.1.state h.state.state

  pub session_came : (journal : List ActorEvent) (before : List Envelope) (outcomes : List (ℕ × Outcome))
      → CameFrom top node journal (before ++ sent) outcomes (actor.Session k w None)
      → CameFrom top node (journal ++ x ∷ []) (before ++ now) outcomes (actor.Session m v ended)
  session_came journal before outcomes came =
      let c = came.comes (session_apart top node journal came.kind) in
      let count = counted c.replay.state c.stands in
      let more = submissions_more journal x in
      one_more top node journal before outcomes (actor.Session k w None) (actor.Session m v ended) x sent now came refl session_did
      (waits_now came.waits c.replay.state c.stands) refl
      (count ∙ ap (λ z. z + submissions (x ∷ [])) came.accepted ∙ sym more)

-- with its outcome taken, a session stands for what it stood for without it
abbrev pub IsTaken : SessionKept → SessionKept → Type 0
IsTaken l m = (top : TopologyValue) (a : SessionState) → session.Represents l top a → session.Represents m top (session_taken a)

node_taken : (l m : SessionKept) {w v : Bool} {ended : Option (ℕ × Outcome)} → TookOutcome l m w v ended → m.node ≡ l.node
node_taken l m took = ap (λ (z : SessionKept). z.node) took.kept

pub session_heard : (e : Envelope) (k l m : SessionKept) (w v : Bool) (none ended : Option (ℕ × Outcome)) (sent now : List Envelope)
    → ((top : TopologyValue) (a : SessionState) → session.Represents k top a → session.IsStepOf (session_handle top k.node a e) top l sent now)
    → l.node ≡ k.node → IsTaken l m → TookOutcome l m w v ended → none ≡ None
    → (top : TopologyValue) (node : ℕ) (journal : List ActorEvent) (before : List Envelope) (outcomes : List (ℕ × Outcome))
    → CameFrom top node journal (before ++ sent) outcomes (actor.Session k w none)
    → CameFrom top node (journal ++ Handle e ∷ []) (before ++ now) outcomes (actor.Session m v ended)
session_heard e k l m w v none ended sent now does stays taken took is top node journal before outcomes came =
    session_came top node (Handle e) (λ n a. session_handle top n a e) (λ a. refl) k l m w v ended sent now (does top) (node_taken l m took ∙ stays) (taken top) took.ends
    (waits_heard e top node k l m w v ended took) journal before outcomes (subst (λ o. CameFrom top node journal (before ++ sent) outcomes (actor.Session k w o)) is came)

pub session_submitted : (o : Op) (k l m : SessionKept) (w v : Bool) (none ended : Option (ℕ × Outcome)) (sent now : List Envelope)
    → ((top : TopologyValue) (a : SessionState) → session.Represents k top a → session.IsStepOf (session_submit top k.node a o) top l sent now)
    → l.node ≡ k.node → IsTaken l m → TookOutcome l m true v ended → none ≡ None
    → (top : TopologyValue) (node : ℕ) (journal : List ActorEvent) (before : List Envelope) (outcomes : List (ℕ × Outcome))
    → CameFrom top node journal (before ++ sent) outcomes (actor.Session k w none)
    → CameFrom top node (journal ++ Submit o ∷ []) (before ++ now) outcomes (actor.Session m v ended)
session_submitted o k l m w v none ended sent now does stays taken took is top node journal before outcomes came =
    session_came top node (Submit o) (λ n a. session_submit top n a o) (λ a. refl) k l m w v ended sent now (does top) (node_taken l m took ∙ stays) (taken top) took.ends
    (λ a s tied q was. waits_submitted o top node l m v ended took a s q) journal before outcomes (subst (λ z. CameFrom top node journal (before ++ sent) outcomes (actor.Session k w z)) is came)

-- a session's outcome is taken
pub outcome_taken : (k : SessionKept) (w : Bool) (ended : Option (ℕ × Outcome)) (top : TopologyValue) (node : ℕ) (journal : List ActorEvent)
    (sent : List Envelope) (outcomes : List (ℕ × Outcome)) → CameFrom top node journal sent outcomes (actor.Session k w ended)
    → CameFrom top node journal sent (outcomes ++ option_to_list ended) (actor.Session k w None)
outcome_taken k w ended top node journal sent outcomes came =
    record {
      kind = came.kind;
      accepted = came.accepted;
      waits = came.waits;
      goes = came.goes;
      comes = λ apart. let c = came.comes apart in record {
        replay = c.replay;
        replays = c.replays;
        stands = go c.replay.state c.stands;
        free = c.free;
        sends = c.sends;
        finishes = c.finishes ∙ ap (λ l. map as_finished outcomes ++ l) (told ended) ∙ sym (map-append as_finished outcomes (option_to_list ended))
            ∙ sym (append-nil (map as_finished (outcomes ++ option_to_list ended)));
      };
    }
  where
    go : (a : ActorState) → Stands top node (actor.Session k w ended) a → Stands top node (actor.Session k w None) a
    go (OfShard a) stands = stands
    go (OfSession a) stands = stands

    told : (o : Option (ℕ × Outcome)) → option_to_list (finished_of o) ≡ map as_finished (option_to_list o)
    told None = refl
    told (Some p) = refl

pub nothing_taken : (k : ShardKept) (top : TopologyValue) (node : ℕ) (journal : List ActorEvent) (sent : List Envelope) (outcomes : List (ℕ × Outcome))
    → CameFrom top node journal sent outcomes (actor.Shard k) → CameFrom top node journal sent (outcomes ++ []) (actor.Shard k)
nothing_taken k top node journal sent outcomes came = subst (λ l. CameFrom top node journal sent l (actor.Shard k)) (sym (append-nil outcomes)) came

-- each session has a home
pub session_home : (top : TopologyValue) (node : ℕ) → is_shard top node ≡ false → node < node_count top → (home : ℕ) × (home_of top node ≡ Some home)
session_home top node away lt =
    let is = counts_session top node lt away in
    let below : node - shard_count top < length top.homes = grind (arith, nat_tests) in
    let home = get_there top.homes (node - shard_count top) below in
    (home.0, ap (λ b. option_and_then (λ i. slice_get top.homes i) (if b then Some (node - shard_count top) else None)) is ∙ home.1)

pub session_opens : (top : TopologyValue) (node : ℕ) (k : SessionKept) → is_shard top node ≡ false → k.node ≡ node
    → ((home : ℕ) → home_of top node ≡ Some home → session.Represents k top (new_session home)) → (home : ℕ) → home_of top node ≡ Some home
    → CameFrom top node [] [] [] (actor.Session k false None)
session_opens top node k away own represents home is =
    let here : Stands top node (actor.Session k false None) (opening_actor top node) = subst (λ a. Stands top node (actor.Session k false None) a)
    (sym (opens_session top node away ∙ ap (λ o. OfSession (new_session (unwrap_or o 0))) is)) (own, represents home is) in
    let state = (represents home is).state in
    let waits : WaitsAsOpen (actor.Session k false None) =
    (ap (λ (z : SessionState). not (is_idle z.current)) state, unfinished k.untaken (sym (ap (λ (z : SessionState). z.untaken) state))) in
    record {
      kind = away;
      accepted = sym (ap (λ (z : SessionState). z.count) (represents home is).state);
      waits = waits;
      goes = λ before x after q. none before x after q;
      comes = λ apart. record {
        replay = record { state = opening_actor top node; sent = []; finished = [] };
        replays = refl;
        stands = here;
        free = free_is top node (actor.Session k false None) (opening_actor top node) waits here;
        sends = refl;
        finishes = refl;
      };
    }
  where
    none : (before : List ActorEvent) (x : ActorEvent) (after : List ActorEvent) → [] ≡ before ++ x ∷ after → StaysApart top node before
        → (r : Replayed) × (replay_of top node (before ++ x ∷ []) ≡ Some r)
    none [] x after q = absurd (cc)
    none (y ∷ before) x after q = absurd (cc)
