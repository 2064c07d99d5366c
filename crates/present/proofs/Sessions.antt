-- The sessions that are kept, where one of them did a step; and the end that is told of it.
use Rattle.std.proofs.Common.{◌≡◌, ◌∙◌, ℕ, ◌+◌, ◌<◌, List, length, slice_get, Option, Some, None, Result, Ok, Err, sym, ap, subst, arith}
use Rattle.std.specs.Prelude.{slice_set, option_and_then}
use Rattle.logical_time.specs.declared.fault.Fault.{Fault}
use Rattle.messages.specs.declared.outcome.Outcome.{Outcome}
use Rattle.messages.specs.declared.envelope.Envelope.{Envelope}
use Rattle.messages.specs.Topology.{TopologyValue}
use Rattle.messages.specs.Session.{SessionState, SessionStep, Finished}
use Rattle.messages.specs.SessionEvents.{session_taken}
use Rattle.client.specs.declared.kept.SessionKept.{SessionKept}
use Rattle.client.specs.Represents as session
use Rattle.client.specs.State.{finished_of}
use Rattle.world.specs.declared.run_event.RunEvent.{RunEvent}
use Rattle.world.specs.Run.{Run, Submission, completed_of, with_ended, with_actor, with_session}
use Rattle.world.specs.Journals.{finished_as}
use Rattle.world.proofs.keeping.ShardSteps.{actor_same}
use Rattle.world.proofs.in_code.Listed.{Found}
use Rattle.world.proofs.in_code.Running.{by_place, actor_other}
use Rattle.present.specs.Present.{IsAt, AreSessions, DidSession, ended_of, IsEnd}

-- one of them stands for another state now
sessions_go_on : (top : TopologyValue) (from : ℕ) (states : ℕ → SessionState) (xs : List SessionKept) (place : ℕ) (k : SessionKept) (a : SessionState) → AreSessions top from states xs
    → place < length xs → session.Represents k top a → k.node ≡ from + place → AreSessions top from (with_actor states (from + place) a) (slice_set xs place k)
sessions_go_on top from states xs place k a are lt here node =
    by_place xs place k (λ i l. IsAt top (with_actor states (from + place) a) (from + i) l) lt
    (record { stands = subst (session.Represents k top) (sym (actor_same states (from + place) a)) here; node = node })
    (λ i l apart at.
    let u = are i l at in
    let other : with_actor states (from + place) a (from + i) ≡ states (from + i) = actor_other states (from + place) (from + i) a (λ e. apart (omega arith)) in
    record { stands = subst (session.Represents l top) (sym other) u.stands; node = u.node })

-- one of them did this step
pub session_did : (top : TopologyValue) (from : ℕ) (states : ℕ → SessionState) (xs : List SessionKept) (place : ℕ) (old stepped taken : SessionKept) (r : Result SessionStep Fault) (before after : List Envelope) (told : Option (ℕ × Outcome))
    → place < length xs → slice_get xs place ≡ Some old → AreSessions top from states xs
    → session.IsStepOf r top stepped before after
    → ((t : TopologyValue) (a : SessionState) → session.Represents stepped t a → session.Represents taken t (session_taken a))
    → stepped.node ≡ old.node → taken.node ≡ stepped.node → told ≡ stepped.untaken
    → DidSession top from states place r (slice_set xs place taken) before after told
session_did top from states xs place old stepped taken (Err e) before after told lt at are did takes node same is = did
session_did top from states xs place old stepped taken (Ok s) before after told lt at are did takes node same is = (
  sessions_go_on top from states xs place taken (session_taken s.state) are lt (takes top s.state did.state) (same ∙ node ∙ (are place old at).node),
  did.sends,
  ap finished_of is ∙ sym (ap (λ (z : SessionState). z.untaken) did.state.state),
)

-- ## The end that is told

-- what the code tells of the end is the entry that the run has
pub told_end : (w : Run) (x : RunEvent) (node : ℕ) (submitted : List Submission) (st : SessionStep) (told : Option (ℕ × Outcome)) → finished_of told ≡ st.state.untaken
    → ((f : Finished) → st.state.untaken ≡ Some f → Found submitted node f) → IsEnd w (with_session w x node submitted st) (ended_of node told)
told_end w x node submitted st None is found = ap (λ z. with_ended w.transcript (option_and_then (completed_of submitted node) z)) (sym is)
told_end w x node submitted st (Some p) is found =
    let f : Finished = record { number = p.0; outcome = p.1 } in
    let r = found f (sym is) in
    let its : finished_as r.0 ≡ f = r.3 in (
      r.0,
      ap (λ z. with_ended w.transcript (option_and_then (completed_of submitted node) z)) (sym is) ∙ ap (with_ended w.transcript) r.1,
      r.2,
      ap (λ (z : Finished). z.number) its,
      ap (λ (z : Finished). z.outcome) its,
    )
