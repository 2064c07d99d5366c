-- What an event makes of a run, as one actor's step: each event is nothing, or the step of one actor.
use Rattle.std.proofs.Common.{◌≡◌, ◌∙◌, ℕ, ◌<◌, Bool, true, false, List, [], ◌∷◌, ◌++◌, Option, Some, None, Result, Ok, Err, ◌⊎◌, inl, inr, refl, sym, ap, subst, arith, slice_get}
use Rattle.std.specs.Prelude.{◌==◌, if◌then◌else◌, option_and_then, Contains}
use Rattle.std.proofs.lemmas.Bool.Decides.{nat_tests}
use Rattle.logical_time.specs.declared.fault.Fault.{Fault}
use Rattle.messages.specs.declared.op.Op.{Op}
use Rattle.messages.specs.declared.envelope.Envelope.{Envelope}
use Rattle.messages.specs.declared.event.ActorEvent.{ActorEvent}
use Rattle.messages.specs.declared.event.ActorEvent.TheVariants.{Submit as SubmitHere, Handle, Collect as CollectHere}
use Rattle.messages.specs.Topology.{TopologyValue, is_shard, is_session, node_count}
use Rattle.messages.specs.Shard.{ShardStep}
use Rattle.messages.specs.Session.{SessionStep}
use Rattle.messages.specs.ShardEvents.{shard_handle, shard_collect}
use Rattle.messages.specs.SessionEvents.{session_handle, session_taken}
use Rattle.messages.specs.Submitting.{session_submit}
use Rattle.messages.specs.Actors.{ActorState, OfShard, OfSession, ActorStep, of_shard, of_session, actor_step}
use Rattle.world.specs.Run.{Run, Submission, Completed, completed_of, with_ended, with_session, submission_by, RunEvent, Submit, Deliver, Collect, after_shard, after_session, after_submission, submit_if, deliver_if, deliver_for, collect_if, step}
use Rattle.world.specs.Journals.{actor_in, event_at}
use Rattle.world.proofs.lists.Members.{contains_get}
use Rattle.world.proofs.keeping.ShardSteps.{actor_same}

-- how many operations an actor accepted
abbrev pub op_count : ActorState → ℕ
op_count (OfShard a) = 0
op_count (OfSession a) = a.count

-- what an actor's event adds to the operations that were accepted
abbrev pub SubmittedBy : TopologyValue → Run → Run → ℕ → ActorStep → ActorEvent → Type 0
SubmittedBy top w v n s (SubmitHere o) =
    (b : Submission) × (is_session top n ≡ true) × (v.submitted ≡ w.submitted ++ b ∷ []) × (b.session ≡ n) × (b.number ≡ op_count s.state) × (b.op ≡ o)
SubmittedBy top w v n s (Handle e) = v.submitted ≡ w.submitted
SubmittedBy top w v n s (CollectHere time) = v.submitted ≡ w.submitted

-- the entry of what a step finishes
abbrev pub entry_of : List Submission → ℕ → ActorStep → Option Completed
entry_of submitted n s = option_and_then (completed_of submitted n) s.finishes

-- The event is a step of this actor: it alone changes, what it sends is added, and the entry of what it finishes.
pub record Moves (top : TopologyValue) (w v : Run) (ev : RunEvent) (n : ℕ) (x : ActorEvent) (s : ActorStep) : Type 0 where
  pub actor : n < node_count top
  pub takes : actor_step top n (actor_in top w n) x ≡ Some s
  pub events : v.events ≡ w.events ++ ev ∷ []
  pub sent : v.sent ≡ w.sent ++ s.sends
  pub here : actor_in top v n ≡ s.state
  pub others : (m : ℕ) → (m == n) ≡ false → actor_in top v m ≡ actor_in top w m
  pub told : (m : ℕ) → event_at w m ev ≡ (if n == m then Some x else None)
  pub known : (k : ℕ) → ev ≡ Deliver k → (e : Envelope) × (slice_get w.sent k ≡ Some e)
  pub received : (e : Envelope) → x ≡ Handle e → (e.to ≡ n) × Contains w.sent e
  pub submitted : SubmittedBy top w v n s x
  pub completed : v.transcript ≡ with_ended w.transcript (entry_of v.submitted n s)

-- ## Nodes

pub shard_node_counts : (top : TopologyValue) (n : ℕ) → is_shard top n ≡ true → n < node_count top
shard_node_counts top n e = grind (arith, nat_tests)

pub session_node_counts : (top : TopologyValue) (n : ℕ) → is_session top n ≡ true → n < node_count top
session_node_counts top n e = grind (arith, nat_tests)

pub session_no_shard : (top : TopologyValue) (n : ℕ) → is_session top n ≡ true → is_shard top n ≡ false
session_no_shard top n e = grind (arith, nat_tests)

pub counts_session : (top : TopologyValue) (n : ℕ) → n < node_count top → is_shard top n ≡ false → is_session top n ≡ true
counts_session top n lt e = grind (arith, nat_tests)

-- ## What an accepted step does

abbrev pub KnowsNumber : Run → RunEvent → Type 0
KnowsNumber w ev = (k : ℕ) → ev ≡ Deliver k → (e : Envelope) × (slice_get w.sent k ≡ Some e)

shard_in : (top : TopologyValue) (w : Run) (n : ℕ) → is_shard top n ≡ true → actor_in top w n ≡ OfShard (w.shards n)
shard_in top w n is = ap (λ b. if b then OfShard (w.shards n) else OfSession (w.sessions n)) is

pub session_in : (top : TopologyValue) (w : Run) (n : ℕ) → is_shard top n ≡ false → actor_in top w n ≡ OfSession (w.sessions n)
session_in top w n is = ap (λ b. if b then OfShard (w.shards n) else OfSession (w.sessions n)) is

-- a shard's step, and a session's, as an actor's
abbrev pub shard_took : ShardStep → ActorStep
shard_took st = record { state = OfShard st.state; sends = st.sends; finishes = None }

abbrev pub session_took : SessionStep → ActorStep
session_took st = record { state = OfSession (session_taken st.state); sends = st.sends; finishes = st.state.untaken }

shard_moves : (top : TopologyValue) (w : Run) (ev : RunEvent) (n : ℕ) (x : ActorEvent) (st : ShardStep) → is_shard top n ≡ true
    → actor_step top n (OfShard (w.shards n)) x ≡ Some (shard_took st)
    → ((m : ℕ) → event_at w m ev ≡ (if n == m then Some x else None)) → KnowsNumber w ev → ((e : Envelope) → x ≡ Handle e → (e.to ≡ n) × Contains w.sent e)
    → SubmittedBy top w (after_shard (Ok st) w ev n) n (shard_took st) x → Moves top w (after_shard (Ok st) w ev n) ev n x (shard_took st)
shard_moves top w ev n x st is takes told known received submitted =
    record {
      actor = shard_node_counts top n is;
      takes = ap (λ a. actor_step top n a x) (shard_in top w n is) ∙ takes;
      events = refl;
      sent = refl;
      here = shard_in top (after_shard (Ok st) w ev n) n is ∙ ap OfShard (actor_same w.shards n st.state);
      others = λ m apart. ap (λ b. if is_shard top m then OfShard (if b then st.state else w.shards m) else OfSession (w.sessions m)) apart;
      told = told;
      known = known;
      received = received;
      submitted = submitted;
      completed = refl;
    }

session_moves : (top : TopologyValue) (w : Run) (ev : RunEvent) (n : ℕ) (x : ActorEvent) (st : SessionStep) (submitted : List Submission)
    → is_session top n ≡ true → actor_step top n (OfSession (w.sessions n)) x ≡ Some (session_took st)
    → ((m : ℕ) → event_at w m ev ≡ (if n == m then Some x else None)) → KnowsNumber w ev → ((e : Envelope) → x ≡ Handle e → (e.to ≡ n) × Contains w.sent e)
    → SubmittedBy top w (with_session w ev n submitted st) n (session_took st) x → Moves top w (with_session w ev n submitted st) ev n x (session_took st)
session_moves top w ev n x st submitted is takes told known received adds =
    let away = session_no_shard top n is in
    let v = with_session w ev n submitted st in
    record {
      actor = session_node_counts top n is;
      takes = ap (λ a. actor_step top n a x) (session_in top w n away) ∙ takes;
      events = refl;
      sent = refl;
      here = session_in top v n away ∙ ap OfSession (actor_same w.sessions n (session_taken st.state));
      others = λ m apart. ap (λ b. if is_shard top m then OfShard (w.shards m) else OfSession (if b then session_taken st.state else w.sessions m)) apart;
      told = told;
      known = known;
      received = received;
      submitted = adds;
      completed = refl;
    }

told_delivery : (w : Run) (k : ℕ) (e : Envelope) → slice_get w.sent k ≡ Some e → (m : ℕ) → event_at w m (Deliver k) ≡ (if e.to == m then Some (Handle e) else None)
told_delivery w k e sent m = ap (option_and_then (λ (z : Envelope). if z.to == m then Some (Handle z) else None)) sent

knows_delivery : (w : Run) (k : ℕ) (e : Envelope) → slice_get w.sent k ≡ Some e → KnowsNumber w (Deliver k)
knows_delivery w k e sent j q = (e, ap (slice_get w.sent) (number q) ∙ sent)
  where
    number : Deliver k ≡ Deliver j → j ≡ k
    number f = cc

knows_submission : (w : Run) (n : ℕ) (o : Op) → KnowsNumber w (Submit n o)
knows_submission w n o j q = absurd (cc)

knows_collection : (w : Run) (n time : ℕ) → KnowsNumber w (Collect n time)
knows_collection w n time j q = absurd (cc)

-- ## Each kind of step

same_envelope : (w : Run) (e : Envelope) → Contains w.sent e → (f : Envelope) → Handle e ≡ Handle f → (f.to ≡ e.to) × Contains w.sent f
same_envelope w e m f q = let is : e ≡ f = cc in (ap (λ (z : Envelope). z.to) (sym is), subst (λ z. Contains w.sent z) is m)

pub handle_moves : (top : TopologyValue) (w : Run) (k : ℕ) (e : Envelope) (st : ShardStep) → slice_get w.sent k ≡ Some e → is_shard top e.to ≡ true
    → shard_handle top e.to (w.shards e.to) e ≡ Ok st → Moves top w (after_shard (Ok st) w (Deliver k) e.to) (Deliver k) e.to (Handle e) (shard_took st)
handle_moves top w k e st sent is ok =
    shard_moves top w (Deliver k) e.to (Handle e) st is (ap of_shard ok) (told_delivery w k e sent) (knows_delivery w k e sent)
    (same_envelope w e (contains_get w.sent k e sent)) refl

pub hear_moves : (top : TopologyValue) (w : Run) (k : ℕ) (e : Envelope) (st : SessionStep) → slice_get w.sent k ≡ Some e → is_session top e.to ≡ true
    → session_handle top e.to (w.sessions e.to) e ≡ Ok st
    → Moves top w (after_session (Ok st) w (Deliver k) e.to) (Deliver k) e.to (Handle e) (session_took st)
hear_moves top w k e st sent is ok =
    session_moves top w (Deliver k) e.to (Handle e) st w.submitted is (ap of_session ok) (told_delivery w k e sent) (knows_delivery w k e sent)
    (same_envelope w e (contains_get w.sent k e sent)) refl

pub submit_moves : (top : TopologyValue) (w : Run) (n : ℕ) (o : Op) (st : SessionStep) → is_session top n ≡ true
    → session_submit top n (w.sessions n) o ≡ Ok st → Moves top w (after_submission (Ok st) w n o) (Submit n o) n (SubmitHere o) (session_took st)
submit_moves top w n o st is ok =
    session_moves top w (Submit n o) n (SubmitHere o) st (w.submitted ++ submission_by w n o st ∷ []) is (ap of_session ok) (λ m. refl) (knows_submission w n o)
    (λ e q. absurd (cc)) (submission_by w n o st, is, refl, refl, refl, refl)

pub collect_moves : (top : TopologyValue) (w : Run) (n time : ℕ) (st : ShardStep) → is_shard top n ≡ true
    → shard_collect (w.shards n) time ≡ Ok st → Moves top w (after_shard (Ok st) w (Collect n time) n) (Collect n time) n (CollectHere time) (shard_took st)
collect_moves top w n time st is ok =
    shard_moves top w (Collect n time) n (CollectHere time) st is (ap of_shard ok) (λ m. refl) (knows_collection w n time) (λ e q. absurd (cc)) refl

-- ## Each event is nothing, or one actor's step

abbrev pub IsMove : TopologyValue → Run → RunEvent → Run → Type 0
IsMove top w ev v = (v ≡ w) ⊎ ((n : ℕ) × (x : ActorEvent) × (s : ActorStep) × Moves top w v ev n x s)

module _ (top : TopologyValue) (w : Run) where
  handled_is : (k : ℕ) (e : Envelope) (r : Result ShardStep Fault) → slice_get w.sent k ≡ Some e → is_shard top e.to ≡ true
      → shard_handle top e.to (w.shards e.to) e ≡ r → IsMove top w (Deliver k) (after_shard r w (Deliver k) e.to)
  handled_is k e (Err fault) sent is q = inl refl
  handled_is k e (Ok st) sent is q = inr (e.to, Handle e, shard_took st, handle_moves top w k e st sent is q)

  heard_is : (k : ℕ) (e : Envelope) (r : Result SessionStep Fault) → slice_get w.sent k ≡ Some e → is_session top e.to ≡ true
      → session_handle top e.to (w.sessions e.to) e ≡ r → IsMove top w (Deliver k) (after_session r w (Deliver k) e.to)
  heard_is k e (Err fault) sent is q = inl refl
  heard_is k e (Ok st) sent is q = inr (e.to, Handle e, session_took st, hear_moves top w k e st sent is q)

  delivered_is : (s t : Bool) (k : ℕ) (e : Envelope) → slice_get w.sent k ≡ Some e → is_shard top e.to ≡ s → is_session top e.to ≡ t
      → IsMove top w (Deliver k) (deliver_if s t top w (Deliver k) e)
  delivered_is true t k e sent is other = handled_is k e (shard_handle top e.to (w.shards e.to) e) sent is refl
  delivered_is false true k e sent away is = heard_is k e (session_handle top e.to (w.sessions e.to) e) sent is refl
  delivered_is false false k e sent away none = inl refl

  message_is : (k : ℕ) (o : Option Envelope) → slice_get w.sent k ≡ o → IsMove top w (Deliver k) (deliver_for o top w (Deliver k))
  message_is k None sent = inl refl
  message_is k (Some e) sent = delivered_is (is_shard top e.to) (is_session top e.to) k e sent refl refl

  submitted_is : (n : ℕ) (o : Op) (r : Result SessionStep Fault) → is_session top n ≡ true → session_submit top n (w.sessions n) o ≡ r
      → IsMove top w (Submit n o) (after_submission r w n o)
  submitted_is n o (Err fault) is q = inl refl
  submitted_is n o (Ok st) is q = inr (n, SubmitHere o, session_took st, submit_moves top w n o st is q)

  submission_is : (b : Bool) (n : ℕ) (o : Op) → is_session top n ≡ b → IsMove top w (Submit n o) (submit_if b top w n o)
  submission_is false n o is = inl refl
  submission_is true n o is = submitted_is n o (session_submit top n (w.sessions n) o) is refl

  collected_is : (n time : ℕ) (r : Result ShardStep Fault) → is_shard top n ≡ true → shard_collect (w.shards n) time ≡ r
      → IsMove top w (Collect n time) (after_shard r w (Collect n time) n)
  collected_is n time (Err fault) is q = inl refl
  collected_is n time (Ok st) is q = inr (n, CollectHere time, shard_took st, collect_moves top w n time st is q)

  collection_is : (b : Bool) (n time : ℕ) → is_shard top n ≡ b → IsMove top w (Collect n time) (collect_if b w n time)
  collection_is false n time is = inl refl
  collection_is true n time is = collected_is n time (shard_collect (w.shards n) time) is refl

  pub each_is_move : (ev : RunEvent) → IsMove top w ev (step top w ev)
  each_is_move (Submit n o) = submission_is (is_session top n) n o refl
  each_is_move (Deliver k) = message_is k (slice_get w.sent k) refl
  each_is_move (Collect n time) = collection_is (is_shard top n) n time refl
