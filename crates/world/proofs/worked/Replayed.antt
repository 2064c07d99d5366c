-- The events that a run keeps lead to it again.
use Rattle.std.proofs.Common.{◌≡◌, ◌∙◌, ap, sym, refl, ℕ, ◌⊎◌, inl, inr, Bool, true, false, List, [], ◌∷◌, ◌++◌, Option, Some, None, Result, Ok, Err, slice_get}
use Rattle.logical_time.specs.declared.fault.Fault.{Fault}
use Rattle.messages.specs.declared.op.Op.{Op}
use Rattle.messages.specs.declared.envelope.Envelope.{Envelope}
use Rattle.messages.specs.Topology.{TopologyValue, is_shard, is_session}
use Rattle.messages.specs.Shard.{ShardStep}
use Rattle.messages.specs.Session.{SessionStep}
use Rattle.messages.specs.ShardEvents.{shard_handle, shard_collect}
use Rattle.messages.specs.SessionEvents.{session_handle}
use Rattle.messages.specs.Submitting.{session_submit}
use Rattle.world.specs.Run.{Run, RunEvent, Submit, Deliver, Collect, opening, after_shard, after_session, after_submission, submit_if, deliver_if, deliver_for, collect_if, step, continued, run}

-- an event changes nothing, or it is added to those that happened
abbrev pub Happens : Run → RunEvent → Run → Type 0
Happens w x v = (v ≡ w) ⊎ (v.events ≡ w.events ++ x ∷ [])

shard_happens : (r : Result ShardStep Fault) (w : Run) (x : RunEvent) (node : ℕ) → Happens w x (after_shard r w x node)
shard_happens (Err e) w x node = inl refl
shard_happens (Ok s) w x node = inr refl

session_happens : (r : Result SessionStep Fault) (w : Run) (x : RunEvent) (node : ℕ) → Happens w x (after_session r w x node)
session_happens (Err e) w x node = inl refl
session_happens (Ok s) w x node = inr refl

submission_happens : (r : Result SessionStep Fault) (w : Run) (node : ℕ) (o : Op) → Happens w (Submit node o) (after_submission r w node o)
submission_happens (Err e) w node o = inl refl
submission_happens (Ok s) w node o = inr refl

submit_happens : (b : Bool) (top : TopologyValue) (w : Run) (node : ℕ) (o : Op) → Happens w (Submit node o) (submit_if b top w node o)
submit_happens true top w node o = submission_happens (session_submit top node (w.sessions node) o) w node o
submit_happens false top w node o = inl refl

deliver_happens : (shard session : Bool) (top : TopologyValue) (w : Run) (x : RunEvent) (e : Envelope) → Happens w x (deliver_if shard session top w x e)
deliver_happens true session top w x e = shard_happens (shard_handle top e.to (w.shards e.to) e) w x e.to
deliver_happens false true top w x e = session_happens (session_handle top e.to (w.sessions e.to) e) w x e.to
deliver_happens false false top w x e = inl refl

message_happens : (o : Option Envelope) (top : TopologyValue) (w : Run) (x : RunEvent) → Happens w x (deliver_for o top w x)
message_happens None top w x = inl refl
message_happens (Some e) top w x = deliver_happens (is_shard top e.to) (is_session top e.to) top w x e

collect_happens : (b : Bool) (w : Run) (node time : ℕ) → Happens w (Collect node time) (collect_if b w node time)
collect_happens true w node time = shard_happens (shard_collect (w.shards node) time) w (Collect node time) node
collect_happens false w node time = inl refl

pub happens : (top : TopologyValue) (w : Run) (x : RunEvent) → Happens w x (step top w x)
happens top w (Submit node o) = submit_happens (is_session top node) top w node o
happens top w (Deliver k) = message_happens (slice_get w.sent k) top w (Deliver k)
happens top w (Collect node time) = collect_happens (is_shard top node) w node time

pub continued_push : (top : TopologyValue) (w : Run) (xs : List RunEvent) (x : RunEvent) → continued top w (xs ++ x ∷ []) ≡ step top (continued top w xs) x
continued_push top w [] x = refl
continued_push top w (y ∷ ys) x = continued_push top (step top w y) ys x

pub step_replayed : (top : TopologyValue) (w : Run) (x : RunEvent) → run top w.events ≡ w → run top (step top w x).events ≡ step top w x
step_replayed top w x replayed = by (happens top w x)
  where
    by : Happens w x (step top w x) → run top (step top w x).events ≡ step top w x
    by (inl nothing) = ap (λ (v : Run). run top v.events) nothing ∙ replayed ∙ sym nothing
    by (inr added) = ap (λ xs. run top xs) added ∙ continued_push top (opening top) w.events x ∙ ap (λ v. step top v x) replayed

continued_replayed : (top : TopologyValue) (xs : List RunEvent) (w : Run) → run top w.events ≡ w → run top (continued top w xs).events ≡ continued top w xs
continued_replayed top [] w replayed = replayed
continued_replayed top (x ∷ xs) w replayed = continued_replayed top xs (step top w x) (step_replayed top w x replayed)

pub runs_replayed : (top : TopologyValue) (events : List RunEvent) → run top (run top events).events ≡ run top events
runs_replayed top events = continued_replayed top events (opening top) refl
