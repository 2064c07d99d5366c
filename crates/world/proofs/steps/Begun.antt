-- What an accepted operation makes of its session: it counts it. A move without dependencies ends at once.
use Rattle.std.proofs.Common.{◌≡◌, ◌∙◌, refl, sym, ap, ℕ, ◌+◌, false, List, [], ◌∷◌, Some, None}
use Rattle.std.proofs.lemmas.Bool.{false≢true}
use Rattle.logical_time.specs.Stamps.{WriterValue}
use Rattle.messages.specs.declared.op.Op.{Op}
use Rattle.messages.specs.declared.op.Op.TheVariants as op
use Rattle.messages.specs.declared.outcome.Outcome.TheVariants as outcome
use Rattle.messages.specs.Topology.{TopologyValue}
use Rattle.messages.specs.Actors.{home_after}
use Rattle.messages.specs.Session.{SessionState, SessionStep, Finished, is_idle}
use Rattle.messages.specs.Submitting.{move_if, begun}

-- it counts the operation. What ends at once has its number and leads to the home that it tells; else the session stays at home
pub record Begins (a : SessionState) (st : SessionStep) : Type 0 where
  pub count : st.state.count ≡ a.count + 1
  pub number : (f : Finished) → st.state.untaken ≡ Some f → f.number ≡ a.count + 1
  pub busy : is_idle st.state.current ≡ false → (st.state.untaken ≡ None) × (st.state.home ≡ a.home)
  pub still : st.state.untaken ≡ None → st.state.home ≡ a.home
  pub moves : (f : Finished) → st.state.untaken ≡ Some f → st.state.home ≡ home_after a.home f.outcome

stays_open : (a : SessionState) (st : SessionStep) → st.state.count ≡ a.count + 1 → st.state.untaken ≡ None → st.state.home ≡ a.home → Begins a st
stays_open a st count none home =
    record {
      count = count;
      number = λ f e. let no : None ≡ Some f = sym none ∙ e in absurd (cc);
      busy = λ e. (none, home);
      still = λ e. home;
      moves = λ f e. let no : None ≡ Some f = sym none ∙ e in absurd (cc);
    }

begins_move : (ds : List WriterValue) (top : TopologyValue) (node n : ℕ) (a : SessionState) (dc : ℕ) → Begins a (move_if ds top node n a dc)
begins_move [] top node n a dc =
    record {
      count = refl;
      number = λ f e. let same : record { number = a.count + 1; outcome = outcome.Moved dc 0 } ≡ f = cc in ap (λ (z : Finished). z.number) (sym same);
      busy = λ e. absurd (false≢true (sym e));
      still = λ e. absurd (cc);
      moves = λ f e. let same : record { number = a.count + 1; outcome = outcome.Moved dc 0 } ≡ f = cc in ap (λ (z : Finished). home_after a.home z.outcome) same;
    }
begins_move (w ∷ ws) top node n a dc = stays_open a (move_if (w ∷ ws) top node n a dc) refl refl refl

pub begins : (top : TopologyValue) (node n : ℕ) (a : SessionState) (o : Op) → Begins a (begun top node n a o)
begins top node n a (op.Batch batch) = stays_open a (begun top node n a (op.Batch batch)) refl refl refl
begins top node n a (op.Read read) = stays_open a (begun top node n a (op.Read read)) refl refl refl
begins top node n a (op.Move dc) = begins_move a.dependencies top node n a dc
