-- One session's step keeps all, if what it adds is sound.
use Rattle.std.proofs.Common.{◌≡◌, ℕ, ◌≤◌, Bool, true, false, cond, List, [], ◌∷◌, ◌⊎◌, inl, inr, refl, sym, subst, eqb-true, le_trans, Some, None, Ok}
use Rattle.std.specs.Prelude.{◌==◌, Contains}
use Rattle.logical_time.specs.Stamps.{WriterValue}
use Rattle.messages.specs.declared.rows_at.RowAt.{RowAt}
use Rattle.messages.specs.declared.op.Op.{Op}
use Rattle.messages.specs.declared.op.Op.TheVariants as op
use Rattle.messages.specs.declared.outcome.Outcome.{Outcome}
use Rattle.messages.specs.declared.outcome.Outcome.TheVariants as outcome
use Rattle.messages.specs.Rounds.{with_writers}
use Rattle.messages.specs.declared.envelope.Envelope.{Envelope}
use Rattle.messages.specs.Topology.{TopologyValue}
use Rattle.messages.specs.Session.{SessionState, SessionStep, is_idle}
use Rattle.messages.specs.SessionEvents.{session_taken}
use Rattle.messages.specs.Actors.{home_after}
use Rattle.world.specs.Run.{Run, RunEvent, Completed, with_actor, ended_by, after_session}
use Rattle.world.specs.Promises.{Fits}
use Rattle.world.proofs.lists.Members.{Contains-append_cases}
use Rattle.world.proofs.growing.Growth.{SessionGrows, Grows}
use Rattle.world.proofs.safety.Invariant.{EnvelopeSound, IsOpen, SessionSound, AnsweredFrom, CompletedSound, Inv}
use Rattle.world.proofs.safety.Lasting.{same_shard_grows, same_session_grows}
use Rattle.world.proofs.safety.LastingAll.{says_grows, shard_grows, session_grows, completed_grows}
use Rattle.world.proofs.keeping.ShardSteps.{actor_same}
use Rattle.world.proofs.steps.Transcripts.{old_stays, ended_or_old}
use Rattle.world.proofs.steps.SessionSends.{AreOfSession}
use Rattle.world.proofs.shards.Playing.{session_played}

-- the step leaves open what is open, tells nothing, and what the session depends on is as it was
pub record Stays (a b : SessionState) : Type 0 where
  pub count : b.count ≡ a.count
  pub home : b.home ≡ a.home
  pub floor : b.floor ≡ a.floor
  pub dependencies : b.dependencies ≡ a.dependencies
  pub untaken : b.untaken ≡ None
  pub idle : is_idle b.current ≡ is_idle a.current

-- what an ended operation leaves: the session depends on its write alone, or on what its read rests on besides. A move
-- is away from the home, and what the session depends on stays
abbrev pub EndLeaves : Op → Outcome → TopologyValue → Run → ℕ → ℕ → List WriterValue → Type 0
EndLeaves (op.Batch batch) (outcome.Wrote commit stamp) top w node floor dependencies =
    (commit ≤ floor) × ((c : ℕ) × (dependencies ≡ record { txn = record { session = node; number = (w.sessions node).count }; shard = c } ∷ []))
EndLeaves (op.Read read) (outcome.Read time answer) top w node floor dependencies =
    (time ≡ floor) × ((rows : List RowAt) × AnsweredFrom top w (w.sessions node).home read time rows × (dependencies ≡ with_writers (w.sessions node).dependencies rows))
EndLeaves (op.Read read) outcome.Collected top w node floor dependencies = dependencies ≡ (w.sessions node).dependencies
EndLeaves (op.Move dc) (outcome.Moved there low) top w node floor dependencies =
    (there ≡ (w.sessions node).home → ⊥) × (dependencies ≡ (w.sessions node).dependencies)
EndLeaves o r top w node floor dependencies = Unit {0}

-- the step ends the open operation
pub record Ends (top : TopologyValue) (w : Run) (node : ℕ) (b : SessionState) : Type 0 where
  pub what : Op
  pub came : Outcome
  pub fits : Fits what came
  pub opened : IsOpen w node (w.sessions node).count (w.sessions node).home what
  pub busy : is_idle (w.sessions node).current ≡ false
  pub idle : is_idle b.current ≡ true
  pub count : b.count ≡ (w.sessions node).count
  pub home : b.home ≡ home_after (w.sessions node).home came
  -- the floor counts in the times of one home
  pub floor : b.home ≡ (w.sessions node).home → (w.sessions node).floor ≤ b.floor
  pub untaken : b.untaken ≡ Some (record { number = (w.sessions node).count; outcome = came })
  pub leaves : EndLeaves what came top w node b.floor b.dependencies

-- a session's step at a message that keeps all in every later run where the session is as it leaves it
pub record SessionAble (top : TopologyValue) (w : Run) (node : ℕ) (st : SessionStep) : Type 0 where
  pub grows : SessionGrows top (w.sessions node) (session_taken st.state)
  pub session : SessionSound top w node (session_taken st.state)
  pub completed : (c : Completed) → ended_by w.submitted node st ≡ Some c → CompletedSound top w c
  pub sends : (x : Run) → Grows top w x → x.sessions node ≡ session_taken st.state → (e : Envelope) → Contains st.sends e → EnvelopeSound top x e
  pub turn : Stays (w.sessions node) st.state ⊎ Ends top w node st.state

pub session_actor_grows : (top : TopologyValue) (f : ℕ → SessionState) (node : ℕ) (b : SessionState) → SessionGrows top (f node) b → (m : ℕ)
    → SessionGrows top (f m) (with_actor f node b m)
session_actor_grows top f node b g m = go (m == node) refl
  where
    go : (t : Bool) → (m == node) ≡ t → SessionGrows top (f m) (cond t b (f m))
    go true e = subst (λ k. SessionGrows top (f k) b) (sym (eqb-true m node e)) g
    go false e = same_session_grows top (f m)

pub session_actor_sound : (top : TopologyValue) (x : Run) (f : ℕ → SessionState) (node : ℕ) (b : SessionState) → ((m : ℕ) → SessionSound top x m (f m))
    → SessionSound top x node b → (m : ℕ) → SessionSound top x m (with_actor f node b m)
session_actor_sound top x f node b k new m = go (m == node) refl
  where
    go : (t : Bool) → (m == node) ≡ t → SessionSound top x m (cond t b (f m))
    go true e = subst (λ n. SessionSound top x n b) (sym (eqb-true m node e)) new
    go false e = k m

pub session_run_grows : (top : TopologyValue) (w : Run) (node : ℕ) (st : SessionStep) (ev : RunEvent) → SessionGrows top (w.sessions node) (session_taken st.state)
    → Grows top w (after_session (Ok st) w ev node)
session_run_grows top w node st ev g =
    record {
      shards = λ m. same_shard_grows (w.shards m);
      sessions = session_actor_grows top w.sessions node (session_taken st.state) g;
      submitted = λ b m. m;
      transcript = λ c m. old_stays c w.transcript (ended_by w.submitted node st) m;
    }

pub session_step_kept : (top : TopologyValue) (w : Run) (node : ℕ) (st : SessionStep) (ev : RunEvent) → Inv top w → SessionAble top w node st
    → AreOfSession node st.sends → Inv top (after_session (Ok st) w ev node)
session_step_kept top w node st ev inv k of =
    let x = after_session (Ok st) w ev node in
    let gr = session_run_grows top w node st ev k.grows in
    record {
      shards = λ m. shard_grows gr (inv.shards m);
      played = session_played top w x node st.sends (λ m. refl) refl of inv.played;
      sessions = session_actor_sound top x w.sessions node (session_taken st.state) (λ m. session_grows gr (inv.sessions m)) (session_grows gr k.session);
      sent = λ e m. elim (Contains-append_cases w.sent st.sends e m) [
        | inl o ↦ says_grows top e.from e.to e.time gr e.body (inv.sent e o)
        | inr n ↦ k.sends x gr (actor_same w.sessions node (session_taken st.state)) e n
      ];
      submitted = record {
        accepted = inv.submitted.accepted;
        number = λ b m. le_trans (inv.submitted.number b m) (gr.sessions b.session).count;
        one = inv.submitted.one;
        placed = inv.submitted.placed;
      };
      transcript = λ c m. elim (ended_or_old c w.transcript (ended_by w.submitted node st) m) [
        | inl o ↦ completed_grows gr (inv.transcript c o)
        | inr n ↦ completed_grows gr (k.completed c n)
      ];
    }
