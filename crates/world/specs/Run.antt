-- Runs: what a list of events makes of the shards, the sessions and the network between them.
use Rattle.std.specs.Prelude.{ℕ, Bool, true, false, ◌==◌, if◌then◌else◌, List, [], ◌∷◌, ◌++◌, find, slice_get, Option, Some, None, option_map, option_and_then, Result, Ok, Err}
use Rattle.std.specs.Option.{unwrap_or}
use Rattle.logical_time.specs.declared.fault.Fault.{Fault}
use Rattle.logical_time.specs.Stamps.{TxnValue, WriterValue}
use Rattle.messages.specs.declared.op.Op.{Op}
use Rattle.messages.specs.declared.envelope.Envelope.{Envelope}
use Rattle.messages.specs.Topology.{TopologyValue, is_shard, is_session, home_of}
use Rattle.messages.specs.Words.{is_same_txn}
use Rattle.messages.specs.Shard.{ShardState, ShardStep, new_shard}
use Rattle.messages.specs.Session.{SessionState, SessionStep, Finished, new_session}
use Rattle.messages.specs.ShardEvents.{shard_handle, shard_collect}
use Rattle.messages.specs.SessionEvents.{session_handle, session_taken}
use Rattle.messages.specs.Submitting.{session_submit}
-- the events of a run, and the operations that ended in it, are public types
pub use Rattle.world.specs.declared.run_event.RunEvent.{RunEvent}
pub use Rattle.world.specs.declared.run_event.RunEvent.TheVariants.{Submit, Deliver, Collect}
pub use Rattle.world.specs.declared.completed.Completed.{Completed}

-- an operation that its session accepted, with its number there, the session's home and its clock then, and what a write then
-- depends on. Of a move the home is the one that it leaves
pub record Submission : Type 0 where
  pub session : ℕ
  pub number : ℕ
  pub home : ℕ
  pub time : ℕ
  pub op : Op
  pub dependencies : List WriterValue

-- ## The state of a run

pub record Run : Type 0 where
  -- what happened so far, oldest first. A refused event isn't in it
  pub events : List RunEvent
  -- each shard by its node
  pub shards : ℕ → ShardState
  -- each session by its node
  pub sessions : ℕ → SessionState
  -- the network: every envelope that was ever sent, in order
  pub sent : List Envelope
  -- the operations that were accepted, in order
  pub submitted : List Submission
  -- the operations that ended, in order
  pub transcript : List Completed

-- a run before its first event: each session is at its first home
abbrev pub opening : TopologyValue → Run
opening top =
    record {
      events = [];
      shards = λ node. new_shard;
      sessions = λ node. new_session (unwrap_or (home_of top node) 0);
      sent = [];
      submitted = [];
      transcript = [];
    }

-- the actors with this one changed, and no other
abbrev pub with_actor : {X : Type 0} → (ℕ → X) → ℕ → X → ℕ → X
with_actor actors node x other = if other == node then x else actors other

-- the submission of an operation, by its session and number
abbrev pub submission_of : List Submission → TxnValue → Option Submission
submission_of submitted t = find (λ s. is_same_txn (record { session = s.session; number = s.number }) t) submitted

-- an operation that its session finished, as it was submitted
abbrev pub completed_of : List Submission → ℕ → Finished → Option Completed
completed_of submitted node f =
    option_map (λ s. record { node = node; number = f.number; home = s.home; op = s.op; outcome = f.outcome })
    (submission_of submitted (record { session = node; number = f.number }))

-- the operation that a session's step ended, if it ended one: what its outcome tells that isn't taken yet
abbrev pub ended_by : List Submission → ℕ → SessionStep → Option Completed
ended_by submitted node s = option_and_then (completed_of submitted node) s.state.untaken

-- a transcript with what ended, if anything did
abbrev pub with_ended : List Completed → Option Completed → List Completed
with_ended transcript None = transcript
with_ended transcript (Some c) = transcript ++ c ∷ []

-- ## The step of an event

-- a shard's step: it alone changes, and what it sends is added to the network. A refused event changes nothing
abbrev pub after_shard : Result ShardStep Fault → Run → RunEvent → ℕ → Run
after_shard (Err e) w x node = w
after_shard (Ok s) w x node =
    record w {
      events = w.events ++ x ∷ [];
      shards = with_actor w.shards node s.state;
      sent = w.sent ++ s.sends;
    }

-- A session's step, in the same way, where these operations are accepted by then: its outcome is taken, and what it ended
-- is added to the transcript.
abbrev pub with_session : Run → RunEvent → ℕ → List Submission → SessionStep → Run
with_session w x node submitted s =
    record w {
      events = w.events ++ x ∷ [];
      sessions = with_actor w.sessions node (session_taken s.state);
      sent = w.sent ++ s.sends;
      submitted = submitted;
      transcript = with_ended w.transcript (ended_by submitted node s);
    }

abbrev pub after_session : Result SessionStep Fault → Run → RunEvent → ℕ → Run
after_session (Err e) w x node = w
after_session (Ok s) w x node = with_session w x node w.submitted s

-- the operation that a session accepted in this step
abbrev pub submission_by : Run → ℕ → Op → SessionStep → Submission
submission_by w node op s =
    record {
      session = node;
      number = s.state.count;
      home = (w.sessions node).home;
      time = s.state.clock;
      op = op;
      dependencies = (w.sessions node).dependencies;
    }

-- a session's step at a submission: the operation is added to those that were accepted
abbrev pub after_submission : Result SessionStep Fault → Run → ℕ → Op → Run
after_submission (Err e) w node op = w
after_submission (Ok s) w node op = with_session w (Submit node op) node (w.submitted ++ submission_by w node op s ∷ []) s

-- a submission, by whether the node is a session
abbrev pub submit_if : Bool → TopologyValue → Run → ℕ → Op → Run
submit_if true top w node op = after_submission (session_submit top node (w.sessions node) op) w node op
submit_if false top w node op = w

-- a delivery of this envelope, by whether it is for a shard and whether it is for a session
abbrev pub deliver_if : Bool → Bool → TopologyValue → Run → RunEvent → Envelope → Run
deliver_if true session top w x e = after_shard (shard_handle top e.to (w.shards e.to) e) w x e.to
deliver_if false true top w x e = after_session (session_handle top e.to (w.sessions e.to) e) w x e.to
deliver_if false false top w x e = w

-- a delivery of the message of a number, if it was sent
abbrev pub deliver_for : Option Envelope → TopologyValue → Run → RunEvent → Run
deliver_for None top w x = w
deliver_for (Some e) top w x = deliver_if (is_shard top e.to) (is_session top e.to) top w x e

-- a collection, by whether the node is a shard
abbrev pub collect_if : Bool → Run → ℕ → ℕ → Run
collect_if true w node time = after_shard (shard_collect (w.shards node) time) w (Collect node time) node
collect_if false w node time = w

-- what an event makes of a run: one actor's step. An event that is refused, one of a message that wasn't sent and one
-- of a node that is no such actor change nothing
abbrev pub step : TopologyValue → Run → RunEvent → Run
step top w (Submit node op) = submit_if (is_session top node) top w node op
step top w (Deliver k) = deliver_for (slice_get w.sent k) top w (Deliver k)
step top w (Collect node time) = collect_if (is_shard top node) w node time

-- events in order, from a run so far
abbrev pub continued : TopologyValue → Run → List RunEvent → Run
continued top w [] = w
continued top w (x ∷ xs) = continued top (step top w x) xs

-- the run of these events
abbrev pub run : TopologyValue → List RunEvent → Run
run top events = continued top (opening top) events
