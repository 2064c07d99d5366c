-- What a transcript has after a session's step: what it had, and what the step ended.
use Rattle.std.proofs.Common.{append-nil, ◌≡◌, ℕ, ap, refl, sym, subst, List, [], ◌∷◌, ◌++◌, Option, Some, None, ◌⊎◌, inl, inr}
use Rattle.std.specs.Prelude.{option_and_then, Contains}
use Rattle.std.specs.List.{cons_option}
use Rattle.messages.specs.declared.op.Op.{Op}
use Rattle.messages.specs.declared.op.Op.TheVariants as op
use Rattle.messages.specs.Topology.{TopologyValue}
use Rattle.messages.specs.Session.{SessionState, SessionStep, Finished}
use Rattle.messages.specs.Submitting.{begun}
use Rattle.world.specs.Run.{Submission, Completed, completed_of, ended_by, with_ended}
use Rattle.world.proofs.lists.Members.{Contains-push, last_or_old, Contains-append_left}
use Rattle.world.proofs.steps.BegunCases.{moved_at_once, begun_cases}

pub ended_or_old : (c : Completed) (cs : List Completed) (o : Option Completed) → Contains (with_ended cs o) c → Contains cs c ⊎ (o ≡ Some c)
ended_or_old c cs None m = inl m
ended_or_old c cs (Some d) m = elim (last_or_old c d cs m) [ inl old ↦ inl old | inr new ↦ inr (ap Some (sym new)) ]

pub old_stays : (c : Completed) (cs : List Completed) (o : Option Completed) → Contains cs c → Contains (with_ended cs o) c
old_stays c cs None m = m
old_stays c cs (Some d) m = Contains-append_left cs (d ∷ []) c m

pub ended_is_last : (c : Completed) (cs : List Completed) (o : Option Completed) → o ≡ Some c → Contains (with_ended cs o) c
ended_is_last c cs o e = subst (λ z. Contains (with_ended cs z) c) (sym e) (Contains-push cs c)

-- as a list
pub as_list : (cs : List Completed) (o : Option Completed) → with_ended cs o ≡ cs ++ cons_option o []
as_list cs None = sym (append-nil cs)
as_list cs (Some c) = refl

-- without an outcome nothing ended
pub nothing_ended : (submitted : List Submission) (node : ℕ) (st : SessionStep) (c : Completed) → st.state.untaken ≡ None → ended_by submitted node st ≡ Some c → ⊥
nothing_ended submitted node st c none e = go st.state.untaken none e
  where
    go : (o : Option Finished) → o ≡ None → option_and_then (completed_of submitted node) o ≡ Some c → ⊥
    go None q h = absurd (cc)
    go (Some f) q h = absurd (cc)

-- what ended is what the outcome tells
pub ended_as_told : (submitted : List Submission) (node : ℕ) (st : SessionStep) (f : Finished) → st.state.untaken ≡ Some f
    → ended_by submitted node st ≡ completed_of submitted node f
ended_as_told submitted node st f told = ap (option_and_then (completed_of submitted node)) told

-- a move that ended where it was submitted
pub record EndsAtOnce (n : ℕ) (a : SessionState) (o : Op) (st : SessionStep) : Type 0 where
  pub dc : ℕ
  pub op : o ≡ op.Move dc
  pub none : a.dependencies ≡ []
  pub step : st ≡ moved_at_once n a dc

-- a submission tells nothing, but for a move that ends at once
pub submission_tells : (top : TopologyValue) (me n : ℕ) (a : SessionState) (o : Op)
    → ((begun top me n a o).state.untaken ≡ None) ⊎ EndsAtOnce n a o (begun top me n a o)
submission_tells top me n a o =
    begun_cases top me n a (λ o st. (st.state.untaken ≡ None) ⊎ EndsAtOnce n a o st)
    (record {
      writes = λ batch. inl refl;
      reads = λ read. inl refl;
      moves = λ dc k ks e. inl refl;
      at_once = λ dc e. inr (record { dc = dc; op = refl; none = e; step = refl });
    }) o

-- so it ends nothing, but for that
pub submission_ends : (top : TopologyValue) (me n : ℕ) (a : SessionState) (o : Op) (submitted : List Submission) (node : ℕ)
    → (ended_by submitted node (begun top me n a o) ≡ None) ⊎ EndsAtOnce n a o (begun top me n a o)
submission_ends top me n a o submitted node = elim (submission_tells top me n a o) [
  | inl none ↦ inl (ap (option_and_then (completed_of submitted node)) none)
  | inr once ↦ inr once
]
