-- The entry of a submitted operation is of this operation.
use Rattle.std.proofs.Common.{◌≡◌, ◌∙◌, ℕ, ◌+◌, ◌<◌, Bool, true, false, List, [], ◌∷◌, ◌++◌, Option, Some, None, Ok, refl, ap, sym, subst}
use Rattle.std.specs.Prelude.{if◌then◌else◌, Contains}
use Rattle.logical_time.specs.declared.fault.Fault.{Fault}
use Rattle.messages.specs.declared.op.Op.{Op}
use Rattle.messages.specs.Topology.{TopologyValue, is_session}
use Rattle.messages.specs.Clock.{ticked, on_clock}
use Rattle.messages.specs.Session.{SessionState}
use Rattle.messages.specs.Submitting.{begun, submit_fault, submit_if as submitted_if, session_submit}
use Rattle.world.specs.declared.run_event.RunEvent.{RunEvent}
use Rattle.world.specs.declared.run_event.RunEvent.TheVariants.{Submit}
use Rattle.world.specs.declared.completed.Completed.{Completed}
use Rattle.world.specs.Run.{Run, Submission, opening, after_submission, submit_if, step, run}
use Rattle.world.specs.Refusals.{Refusal, Refused, NoSuchActor, refused_by, refusal_of}
use Rattle.world.proofs.lists.Members.{Contains-push, Contains-append_left}
use Rattle.world.proofs.safety.Facts.{txn_of}
use Rattle.world.proofs.growing.Grown.{runs_only_grow}
use Rattle.world.proofs.promised.Laws.{entries_are_of_submissions}
use Rattle.world.proofs.steps.Begun.{begins}
use Rattle.world.proofs.causal.Homes.{homes_are_of_moves}
use Rattle.world.proofs.safety.Runs.{every_run, run_after}
use Rattle.service.specs.Port.{IsEndOf}
use Rattle.service.specs.Meaning.{home_in}

-- the operation is submitted, as this one of the session
pub record IsListed (w : Run) (session number : ℕ) (o : Op) : Type 0 where
  pub submission : Submission
  pub among : Contains w.submitted submission
  pub session_is : submission.session ≡ session
  pub numbered : submission.number ≡ number
  pub op : submission.op ≡ o

module _ (top : TopologyValue) (w : Run) (node : ℕ) (o : Op) where
  abbrev a : SessionState
  a = w.sessions node

  accepted : (f : Option Fault) (c : Option ℕ) → submit_fault top a o ≡ f → ticked a.clock a.clock ≡ c
      → refused_by (session_submit top node a o) ≡ None → (n : ℕ) × (session_submit top node a o ≡ Ok (begun top node n a o))
  accepted (Some e) c p q none = absurd (none_some (sym (ap (λ z. refused_by (submitted_if z top node a o)) p) ∙ none))
    where
      none_some : Some (Refused e) ≡ None → ⊥
      none_some h = cc
  accepted None None p q none =
      absurd (none_some (sym (ap (λ z. refused_by (submitted_if z top node a o)) p ∙ ap (λ z. refused_by (on_clock z (λ n. begun top node n a o))) q) ∙ none))
    where
      none_some : {r : Refusal} → Some r ≡ None → ⊥
      none_some h = cc
  accepted None (Some n) p q none = (n, ap (λ z. submitted_if z top node a o) p ∙ ap (λ z. on_clock z (λ m. begun top node m a o)) q)

  as_session : (b : Bool) → is_session top node ≡ b → (if b then refused_by (session_submit top node a o) else Some NoSuchActor) ≡ None
      → (is_session top node ≡ true) × (refused_by (session_submit top node a o) ≡ None)
  as_session true is none = (is, none)
  as_session false is none = absurd cc

  pub listed_then : refusal_of top w (Submit node o) ≡ None → IsListed (step top w (Submit node o)) node (a.count + 1) o
  listed_then none =
      let here = as_session (is_session top node) refl none in
      let took = accepted (submit_fault top a o) (ticked a.clock a.clock) refl refl here.1 in
      let s = begun top node took.0 a o in
      let is : step top w (Submit node o) ≡ after_submission (Ok s) w node o =
      ap (λ b. submit_if b top w node o) here.0 ∙ ap (λ r. after_submission r w node o) took.1 in
      let b : Submission = record { session = node; number = s.state.count; home = a.home; time = s.state.clock; op = o; dependencies = a.dependencies } in
      subst (λ v. IsListed v node (a.count + 1) o) (sym is)
      (record { submission = b; among = Contains-push w.submitted b; session_is = refl; numbered = (begins top node took.0 a o).count; op = refl })

named : (b c : Submission) (session number : ℕ) → b.session ≡ session → b.number ≡ number → c.session ≡ session → c.number ≡ number → txn_of b ≡ txn_of c
named b c session number p q s t = cc

module _ (top : TopologyValue) (some : 0 < top.shards) where
  -- it stays listed
  pub listed_still : (before more : List RunEvent) (session number : ℕ) (o : Op) → IsListed (run top before) session number o → IsListed (run top (before ++ more)) session number o
  listed_still before more session number o l =
      let grew = (runs_only_grow top before more).submitted in
      record {
        submission = l.submission;
        among = subst (λ bs. Contains bs l.submission) (sym grew.1) (Contains-append_left (run top before).submitted grew.0 l.submission l.among);
        session_is = l.session_is;
        numbered = l.numbered;
        op = l.op;
      }

  -- what a submission that isn't refused lists
  pub listed_after : (events : List RunEvent) (session : ℕ) (o : Op) → refusal_of top (run top events) (Submit session o) ≡ None
      → IsListed (run top (events ++ Submit session o ∷ [])) session (((run top events).sessions session).count + 1) o
  listed_after events session o none =
      subst (λ v. IsListed v session (((run top events).sessions session).count + 1) o) (sym (run_after top (opening top) events (Submit session o ∷ [])))
      (listed_then top (run top events) session o none)

  -- an entry of its number is of it
  pub own_op : (events : List RunEvent) (session number : ℕ) (o : Op) (c : Completed) → IsListed (run top events) session number o → IsEndOf (run top events) session number c → c.op ≡ o
  own_op events session number o c l is =
      let w = run top events in
      let of = entries_are_of_submissions top events some c is.listed in
      let same = (every_run top events some).submitted.one of.submission l.submission of.submitted l.among
      (named of.submission l.submission session number (of.session ∙ is.node) (of.number ∙ is.numbered) l.session_is l.numbered) in
      sym of.op ∙ (ap (λ (b : Submission). b.op) same ∙ l.op)

  -- an entry of the session is of the data centre where its operation was submitted
  pub own_home : (events : List RunEvent) (session number : ℕ) (c : Completed) → IsEndOf (run top events) session number c → c.home ≡ home_in top (run top events) session number
  own_home events session number c is =
      let w = run top events in
      homes_are_of_moves top events some c is.listed
      ∙ ap (λ n. home_in top w n c.number) is.node
      ∙ ap (home_in top w session) is.numbered
