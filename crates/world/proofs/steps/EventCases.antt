-- What an event makes of a run, case by case: nothing, or the step of one actor.
use Rattle.std.proofs.Common.{◌≡◌, ℕ, Bool, true, false, Option, Some, None, Ok, refl, slice_get}
use Rattle.logical_time.specs.declared.fault.Fault.{Fault}
use Rattle.messages.specs.declared.op.Op.{Op}
use Rattle.messages.specs.declared.envelope.Envelope.{Envelope}
use Rattle.messages.specs.Topology.{TopologyValue, is_shard, is_session}
use Rattle.messages.specs.Clock.{ticked, on_clock}
use Rattle.messages.specs.ShardEvents.{handled, shard_handle, collected}
use Rattle.messages.specs.SessionEvents.{heard, session_handle}
use Rattle.messages.specs.Submitting.{begun, submit_fault, submit_if as submitted_if}
use Rattle.world.specs.Run.{Run, RunEvent, Submit, Deliver, Collect, after_shard, after_session, after_submission, submit_if, deliver_if, deliver_for, collect_if, step}

-- What holds of each thing that an event may make of the run holds of what it makes. Each step is at the clock that its
-- actor moves to.
pub record TimedCases (top : TopologyValue) (w : Run) (x : RunEvent) (P : Run → Type 0) : Type 0 where
  -- it is refused, or of no actor
  pub nothing : P w
  pub handled : (k : ℕ) (e : Envelope) (n : ℕ) → x ≡ Deliver k → slice_get w.sent k ≡ Some e → is_shard top e.to ≡ true
      → ticked (w.shards e.to).clock e.time ≡ Some n
      → P (after_shard (Ok (handled top e.to n (w.shards e.to) e.from e.body)) w x e.to)
  pub heard : (k : ℕ) (e : Envelope) (n : ℕ) → x ≡ Deliver k → slice_get w.sent k ≡ Some e → is_shard top e.to ≡ false → is_session top e.to ≡ true
      → ticked (w.sessions e.to).clock e.time ≡ Some n
      → P (after_session (Ok (heard top e.to n (w.sessions e.to) e.from e.body)) w x e.to)
  pub begun : (node : ℕ) (o : Op) (n : ℕ) → x ≡ Submit node o → is_session top node ≡ true → ticked (w.sessions node).clock (w.sessions node).clock ≡ Some n
      → P (after_submission (Ok (begun top node n (w.sessions node) o)) w node o)
  pub collected : (node time n : ℕ) → x ≡ Collect node time → ticked (w.shards node).clock (w.shards node).clock ≡ Some n
      → P (after_shard (Ok (collected n (w.shards node) time)) w x node)

handle_cases : (top : TopologyValue) (w : Run) (x : RunEvent) (P : Run → Type 0) (k : ℕ) (e : Envelope) → x ≡ Deliver k → slice_get w.sent k ≡ Some e
    → is_shard top e.to ≡ true
    → TimedCases top w x P → P (after_shard (shard_handle top e.to (w.shards e.to) e) w x e.to)
handle_cases top w x P k e is sent to c = go (ticked (w.shards e.to).clock e.time) refl
  where
    go : (o : Option ℕ) → ticked (w.shards e.to).clock e.time ≡ o → P (after_shard (on_clock o (λ n. handled top e.to n (w.shards e.to) e.from e.body)) w x e.to)
    go None ticks = c.nothing
    go (Some n) ticks = c.handled k e n is sent to ticks

hear_cases : (top : TopologyValue) (w : Run) (x : RunEvent) (P : Run → Type 0) (k : ℕ) (e : Envelope) → x ≡ Deliver k → slice_get w.sent k ≡ Some e
    → is_shard top e.to ≡ false
    → is_session top e.to ≡ true → TimedCases top w x P → P (after_session (session_handle top e.to (w.sessions e.to) e) w x e.to)
hear_cases top w x P k e is sent other to c = go (ticked (w.sessions e.to).clock e.time) refl
  where
    go : (o : Option ℕ) → ticked (w.sessions e.to).clock e.time ≡ o → P (after_session (on_clock o (λ n. heard top e.to n (w.sessions e.to) e.from e.body)) w x e.to)
    go None ticks = c.nothing
    go (Some n) ticks = c.heard k e n is sent other to ticks

message_cases : (top : TopologyValue) (w : Run) (k : ℕ) (P : Run → Type 0) → TimedCases top w (Deliver k) P → P (step top w (Deliver k))
message_cases top w k P c = go (slice_get w.sent k) refl
  where
    to : (e : Envelope) → slice_get w.sent k ≡ Some e → (s t : Bool) → is_shard top e.to ≡ s → is_session top e.to ≡ t
        → P (deliver_if s t top w (Deliver k) e)
    to e sent true t p q = handle_cases top w (Deliver k) P k e refl sent p c
    to e sent false true p q = hear_cases top w (Deliver k) P k e refl sent p q c
    to e sent false false p q = c.nothing

    go : (o : Option Envelope) → slice_get w.sent k ≡ o → P (deliver_for o top w (Deliver k))
    go None sent = c.nothing
    go (Some e) sent = to e sent (is_shard top e.to) (is_session top e.to) refl refl

submit_cases : (top : TopologyValue) (w : Run) (node : ℕ) (o : Op) (P : Run → Type 0) → TimedCases top w (Submit node o) P → P (step top w (Submit node o))
submit_cases top w node o P c = by (is_session top node) refl
  where
    clocked : is_session top node ≡ true → (t : Option ℕ) → ticked (w.sessions node).clock (w.sessions node).clock ≡ t
        → P (after_submission (on_clock t (λ n. begun top node n (w.sessions node) o)) w node o)
    clocked is None ticks = c.nothing
    clocked is (Some n) ticks = c.begun node o n refl is ticks

    go : is_session top node ≡ true → (f : Option Fault) → P (after_submission (submitted_if f top node (w.sessions node) o) w node o)
    go is (Some fault) = c.nothing
    go is None = clocked is (ticked (w.sessions node).clock (w.sessions node).clock) refl

    by : (b : Bool) → is_session top node ≡ b → P (submit_if b top w node o)
    by true is = go is (submit_fault top (w.sessions node) o)
    by false is = c.nothing

collect_cases : (top : TopologyValue) (w : Run) (node time : ℕ) (P : Run → Type 0) → TimedCases top w (Collect node time) P
    → P (step top w (Collect node time))
collect_cases top w node time P c = by (is_shard top node)
  where
    go : (o : Option ℕ) → ticked (w.shards node).clock (w.shards node).clock ≡ o
        → P (after_shard (on_clock o (λ n. collected n (w.shards node) time)) w (Collect node time) node)
    go None ticks = c.nothing
    go (Some n) ticks = c.collected node time n refl ticks

    by : (b : Bool) → P (collect_if b w node time)
    by true = go (ticked (w.shards node).clock (w.shards node).clock) refl
    by false = c.nothing

pub timed_cases : (top : TopologyValue) (w : Run) (x : RunEvent) (P : Run → Type 0) → TimedCases top w x P → P (step top w x)
timed_cases top w (Submit node o) P c = submit_cases top w node o P c
timed_cases top w (Deliver k) P c = message_cases top w k P c
timed_cases top w (Collect node time) P c = collect_cases top w node time P c

-- the same at any clock
pub record Cases (top : TopologyValue) (w : Run) (x : RunEvent) (P : Run → Type 0) : Type 0 where
  pub nothing : P w
  pub handled : (k : ℕ) (e : Envelope) (n : ℕ) → x ≡ Deliver k → slice_get w.sent k ≡ Some e → is_shard top e.to ≡ true
      → P (after_shard (Ok (handled top e.to n (w.shards e.to) e.from e.body)) w x e.to)
  pub heard : (k : ℕ) (e : Envelope) (n : ℕ) → x ≡ Deliver k → slice_get w.sent k ≡ Some e → is_shard top e.to ≡ false → is_session top e.to ≡ true
      → P (after_session (Ok (heard top e.to n (w.sessions e.to) e.from e.body)) w x e.to)
  pub begun : (node : ℕ) (o : Op) (n : ℕ) → x ≡ Submit node o → is_session top node ≡ true
      → P (after_submission (Ok (begun top node n (w.sessions node) o)) w node o)
  pub collected : (node time n : ℕ) → x ≡ Collect node time → P (after_shard (Ok (collected n (w.shards node) time)) w x node)

pub event_cases : (top : TopologyValue) (w : Run) (x : RunEvent) (P : Run → Type 0) → Cases top w x P → P (step top w x)
event_cases top w x P c =
    timed_cases top w x P
    (record {
      nothing = c.nothing;
      handled = λ k e n is sent to ticks. c.handled k e n is sent to;
      heard = λ k e n is sent other to ticks. c.heard k e n is sent other to;
      begun = λ node o n is to ticks. c.begun node o n is to;
      collected = λ node time n is ticks. c.collected node time n is;
    })
