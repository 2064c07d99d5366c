-- An event is refused, and changes nothing, or it isn't, and is added.
use Rattle.std.proofs.Common.{append-nil, ◌≡◌, ◌∙◌, ℕ, Bool, true, false, List, [], ◌∷◌, ◌++◌, Option, Some, None, Result, Ok, Err, ◌⊎◌, inl, inr, refl, sym, ap, subst, slice_get}
use Rattle.std.specs.Prelude.{if◌then◌else◌, ◌↔◌}
use Rattle.std.proofs.lemmas.List.{append_assoc}
use Rattle.logical_time.specs.declared.fault.Fault.{Fault}
use Rattle.logical_time.specs.declared.fault.Fault.TheVariants.{ClockSpent}
use Rattle.messages.specs.declared.op.Op.{Op}
use Rattle.messages.specs.declared.envelope.Envelope.{Envelope}
use Rattle.messages.specs.Topology.{TopologyValue, is_shard, is_session}
use Rattle.messages.specs.Shard.{ShardStep}
use Rattle.messages.specs.Clock.{ticked, on_clock}
use Rattle.messages.specs.Session.{SessionStep}
use Rattle.messages.specs.ShardEvents.{handled, shard_handle, collected, shard_collect}
use Rattle.messages.specs.SessionEvents.{heard, session_handle}
use Rattle.messages.specs.Submitting.{begun, submit_fault, submit_if as session_submit_if, session_submit}
use Rattle.world.specs.Run.{Run, RunEvent, Submit, Deliver, Collect, opening, after_shard, after_session, after_submission, submit_if, deliver_if, deliver_for, collect_if, step, continued, run}
use Rattle.world.specs.Refusals.{clock_at, Refusal, Refused, NoSuchActor, refused_by, refusal_of_message, refusal_of, HaveReasons, IsRun}
use Rattle.world.proofs.worked.Replayed.{continued_push, runs_replayed}
use Rattle.world.proofs.growing.Prefixes.{IsAccepted, not_both, accepted}

-- ## One event

-- refused, the run stays as it was; not refused, the event is added
abbrev pub IsSettled : Option Refusal → Run → RunEvent → Run → Type 0
IsSettled None w x v = IsAccepted w x v
IsSettled (Some r) w x v = v ≡ w

shard_settled : (r : Result ShardStep Fault) (w : Run) (x : RunEvent) (node : ℕ) → IsSettled (refused_by r) w x (after_shard r w x node)
shard_settled (Err e) w x node = refl
shard_settled (Ok s) w x node = refl

session_settled : (r : Result SessionStep Fault) (w : Run) (x : RunEvent) (node : ℕ) → IsSettled (refused_by r) w x (after_session r w x node)
session_settled (Err e) w x node = refl
session_settled (Ok s) w x node = refl

submission_settled : (r : Result SessionStep Fault) (w : Run) (node : ℕ) (o : Op) → IsSettled (refused_by r) w (Submit node o) (after_submission r w node o)
submission_settled (Err e) w node o = refl
submission_settled (Ok s) w node o = refl

submit_settled : (b : Bool) (top : TopologyValue) (w : Run) (node : ℕ) (o : Op)
    → IsSettled (if b then refused_by (session_submit top node (w.sessions node) o) else Some NoSuchActor) w (Submit node o) (submit_if b top w node o)
submit_settled true top w node o = submission_settled (session_submit top node (w.sessions node) o) w node o
submit_settled false top w node o = refl

envelope_settled : (shard session : Bool) (top : TopologyValue) (w : Run) (x : RunEvent) (e : Envelope)
    → IsSettled
    (if shard then refused_by (shard_handle top e.to (w.shards e.to) e)
    else if session then refused_by (session_handle top e.to (w.sessions e.to) e) else Some NoSuchActor)
    w x (deliver_if shard session top w x e)
envelope_settled true session top w x e = shard_settled (shard_handle top e.to (w.shards e.to) e) w x e.to
envelope_settled false true top w x e = session_settled (session_handle top e.to (w.sessions e.to) e) w x e.to
envelope_settled false false top w x e = refl

message_settled : (o : Option Envelope) (top : TopologyValue) (w : Run) (x : RunEvent) → IsSettled (refusal_of_message top w o) w x (deliver_for o top w x)
message_settled None top w x = refl
message_settled (Some e) top w x = envelope_settled (is_shard top e.to) (is_session top e.to) top w x e

collect_settled : (b : Bool) (w : Run) (node time : ℕ)
    → IsSettled (if b then refused_by (shard_collect (w.shards node) time) else Some NoSuchActor) w (Collect node time) (collect_if b w node time)
collect_settled true w node time = shard_settled (shard_collect (w.shards node) time) w (Collect node time) node
collect_settled false w node time = refl

settled : (top : TopologyValue) (w : Run) (x : RunEvent) → IsSettled (refusal_of top w x) w x (step top w x)
settled top w (Submit node o) = submit_settled (is_session top node) top w node o
settled top w (Deliver k) = message_settled (slice_get w.sent k) top w (Deliver k)
settled top w (Collect node time) = collect_settled (is_shard top node) w node time

pub refused_stays : (top : TopologyValue) (w : Run) (x : RunEvent) (r : Refusal) → refusal_of top w x ≡ Some r → step top w x ≡ w
refused_stays top w x r e = subst (λ o. IsSettled o w x (step top w x)) e (settled top w x)

pub allowed_is_added : (top : TopologyValue) (w : Run) (x : RunEvent) → refusal_of top w x ≡ None → IsAccepted w x (step top w x)
allowed_is_added top w x e = subst (λ o. IsSettled o w x (step top w x)) e (settled top w x)

pub added_is_allowed : (top : TopologyValue) (w : Run) (x : RunEvent) → IsAccepted w x (step top w x) → refusal_of top w x ≡ None
added_is_allowed top w x now = go (refusal_of top w x) refl
  where
    go : (o : Option Refusal) → refusal_of top w x ≡ o → refusal_of top w x ≡ None
    go None q = q
    go (Some r) q = absurd (not_both w x (subst (λ v. IsAccepted w x v) (refused_stays top w x r q) now))

pub none_if_added : (top : TopologyValue) (w : Run) (x : RunEvent) → (refusal_of top w x ≡ None) ↔ ((step top w x).events ≡ w.events ++ x ∷ [])
none_if_added top w x = (allowed_is_added top w x, added_is_allowed top w x)

-- ## Reasons

-- a step at a clock is refused only where the clock is spent
spent : {X : Type 0} (t : Option ℕ) (f : ℕ → X) (e : Fault) → refused_by (on_clock t f) ≡ Some (Refused e) → (t ≡ None) × (e ≡ ClockSpent)
spent None f e h = let is : e ≡ ClockSpent = cc in (refl, is)
spent (Some n) f e h = absurd (cc)

no_such : (e : Fault) → Some NoSuchActor ≡ Some (Refused e) → ⊥
no_such e h = absurd (cc)

module _ (top : TopologyValue) (w : Run) where
  delivery_spent : (f : Envelope) (e : Fault) (shard session : Bool)
      → (if shard then refused_by (shard_handle top f.to (w.shards f.to) f)
      else if session then refused_by (session_handle top f.to (w.sessions f.to) f) else Some NoSuchActor)
      ≡ Some (Refused e) → (ticked (if shard then (w.shards f.to).clock else (w.sessions f.to).clock) f.time ≡ None) × (e ≡ ClockSpent)
  delivery_spent f e true session h = spent (ticked (w.shards f.to).clock f.time) (λ n. handled top f.to n (w.shards f.to) f.from f.body) e h
  delivery_spent f e false true h = spent (ticked (w.sessions f.to).clock f.time) (λ n. heard top f.to n (w.sessions f.to) f.from f.body) e h
  delivery_spent f e false false h = absurd (no_such e h)

  message_spent : (k : ℕ) (o : Option Envelope) (e : Fault) → slice_get w.sent k ≡ o → refusal_of_message top w o ≡ Some (Refused e)
      → (f : Envelope) × (slice_get w.sent k ≡ Some f) × (ticked (clock_at top w f.to) f.time ≡ None) × (e ≡ ClockSpent)
  message_spent k None e q h = absurd (cc)
  message_spent k (Some f) e q h = let p = delivery_spent f e (is_shard top f.to) (is_session top f.to) h in (f, q, p.0, p.1)

  collection_spent : (b : Bool) (node time : ℕ) (e : Fault)
      → (if b then refused_by (shard_collect (w.shards node) time) else Some NoSuchActor) ≡ Some (Refused e)
      → (ticked (w.shards node).clock (w.shards node).clock ≡ None) × (e ≡ ClockSpent)
  collection_spent true node time e h = spent (ticked (w.shards node).clock (w.shards node).clock) (λ n. collected n (w.shards node) time) e h
  collection_spent false node time e h = absurd (no_such e h)

  fault_or_spent : (f : Option Fault) (node : ℕ) (o : Op) (e : Fault) → refused_by (session_submit_if f top node (w.sessions node) o) ≡ Some (Refused e)
      → (f ≡ Some e) ⊎ ((f ≡ None) × (ticked (w.sessions node).clock (w.sessions node).clock ≡ None) × (e ≡ ClockSpent))
  fault_or_spent (Some fault) node o e h = let same : fault ≡ e = cc in inl (ap Some same)
  fault_or_spent None node o e h =
      let p = spent (ticked (w.sessions node).clock (w.sessions node).clock) (λ n. begun top node n (w.sessions node) o) e h in
      inr (refl, p.0, p.1)

  submission_refused : (b : Bool) (node : ℕ) (o : Op) (e : Fault)
      → (if b then refused_by (session_submit top node (w.sessions node) o) else Some NoSuchActor) ≡ Some (Refused e)
      → (submit_fault top (w.sessions node) o ≡ Some e)
      ⊎ ((submit_fault top (w.sessions node) o ≡ None)
      × (ticked (w.sessions node).clock (w.sessions node).clock ≡ None) × (e ≡ ClockSpent))
  submission_refused true node o e h = fault_or_spent (submit_fault top (w.sessions node) o) node o e h
  submission_refused false node o e h = absurd (no_such e h)

  pub have_reasons : HaveReasons top w
  have_reasons =
      record {
        submissions = λ node o e. submission_refused (is_session top node) node o e;
        deliveries = λ k e. message_spent k (slice_get w.sent k) e refl;
        collections = λ node time e. collection_spent (is_shard top node) node time e;
      }

-- ## Lists of events

-- from a run so far, none of these is refused
abbrev GoesOn : TopologyValue → Run → List RunEvent → Type 0
GoesOn top w events = (before : List RunEvent) (x : RunEvent) (after : List RunEvent) → events ≡ before ++ x ∷ after → refusal_of top (continued top w before) x ≡ None

all_added : (top : TopologyValue) (w : Run) (events : List RunEvent) → GoesOn top w events → (continued top w events).events ≡ w.events ++ events
all_added top w [] k = sym (append-nil w.events)
all_added top w (x ∷ xs) k =
    all_added top (step top w x) xs (λ before y after e. k (x ∷ before) y after (ap (λ l. x ∷ l) e))
    ∙ ap (λ l. l ++ xs) (allowed_is_added top w x (k [] x xs refl)) ∙ append_assoc w.events (x ∷ []) xs

pub run_is_kept : (top : TopologyValue) (events : List RunEvent) → IsRun top events → (run top events).events ≡ events
run_is_kept top events k = all_added top (opening top) events k

pub kept_is_run : (top : TopologyValue) (events : List RunEvent) → (run top events).events ≡ events → IsRun top events
kept_is_run top events e before x after split =
    let w = run top events in
    added_is_allowed top (run top before) x (accepted top w (runs_replayed top events) before x after (e ∙ split))

pub is_run_if_kept : (top : TopologyValue) (events : List RunEvent) → IsRun top events ↔ ((run top events).events ≡ events)
is_run_if_kept top events = (run_is_kept top events, kept_is_run top events)

-- what a run keeps is one
pub kept_events_are_run : (top : TopologyValue) (events : List RunEvent) → IsRun top (run top events).events
kept_events_are_run top events = kept_is_run top (run top events).events (ap (λ (w : Run). w.events) (runs_replayed top events))

-- one event more
pub run_goes_on : (top : TopologyValue) (events : List RunEvent) (x : RunEvent) → IsRun top events → refusal_of top (run top events) x ≡ None → IsRun top (events ++ x ∷ [])
run_goes_on top events x k e =
    kept_is_run top (events ++ x ∷ [])
    (ap (λ (w : Run). w.events) (continued_push top (opening top) events x) ∙ allowed_is_added top (run top events) x e
    ∙ ap (λ l. l ++ x ∷ []) (run_is_kept top events k))
