-- One shard's step keeps all, if what it adds is sound.
use Rattle.std.proofs.Common.{◌≡◌, ℕ, Bool, true, false, cond, inl, inr, refl, sym, ap, subst, eqb-true, eq-eqb, Ok}
use Rattle.std.specs.Prelude.{◌==◌}
use Rattle.messages.specs.Topology.{TopologyValue}
use Rattle.messages.specs.Shard.{ShardState, ShardStep}
use Rattle.world.specs.Run.{Run, RunEvent, with_actor, after_shard}
use Rattle.world.proofs.lists.Members.{Contains-append_cases}
use Rattle.world.proofs.growing.Growth.{ShardGrows, Grows}
use Rattle.world.proofs.safety.Invariant.{Played, ShardSound, Inv}
use Rattle.world.proofs.safety.Able.{AddsSound, Able}
use Rattle.world.proofs.safety.Lasting.{same_shard_grows, same_session_grows}
use Rattle.world.proofs.safety.LastingAll.{says_grows, shard_grows, session_grows, completed_grows}

pub actor_same : {X : Type 0} (f : ℕ → X) (node : ℕ) (b : X) → with_actor f node b node ≡ b
actor_same f node b = ap (λ t. cond t b (f node)) (eq-eqb node node refl)

actor_grows : (f : ℕ → ShardState) (node : ℕ) (b : ShardState) → ShardGrows (f node) b → (m : ℕ) → ShardGrows (f m) (with_actor f node b m)
actor_grows f node b g m = go (m == node) refl
  where
    go : (t : Bool) → (m == node) ≡ t → ShardGrows (f m) (cond t b (f m))
    go true e = subst (λ k. ShardGrows (f k) b) (sym (eqb-true m node e)) g
    go false e = same_shard_grows (f m)

pub shard_run_grows : (top : TopologyValue) (w : Run) (node : ℕ) (st : ShardStep) (ev : RunEvent) → ShardGrows (w.shards node) st.state → Grows top w (after_shard (Ok st) w ev node)
shard_run_grows top w node st ev g =
    record {
      shards = actor_grows w.shards node st.state g;
      sessions = λ i. same_session_grows top (w.sessions i);
      submitted = λ b m. m;
      transcript = λ c m. m;
    }

fresh_sound : {top : TopologyValue} {x : Run} {node : ℕ} {a : ShardState} {st : ShardStep} → ShardSound top x node a → AddsSound top x node a st → ShardSound top x node st.state
fresh_sound k f =
    record {
      prepared = λ p m. elim (f.prepared p m) [ inl o ↦ k.prepared p o | inr n ↦ n ];
      ballots = λ b m. elim (f.ballots b m) [ inl o ↦ k.ballots b o | inr n ↦ n ];
      early = λ v m. elim (f.early v m) [ inl o ↦ k.early v o | inr n ↦ n ];
      votes = λ v m. elim (f.votes v m) [ inl o ↦ k.votes v o | inr n ↦ n ];
      decided = λ d m. elim (f.decided d m) [ inl o ↦ k.decided d o | inr n ↦ n ];
      once = f.once;
      applied = λ v m. elim (f.applied v m) [ inl o ↦ k.applied v o | inr n ↦ n ];
      kept_parts = λ p m. elim (f.kept_parts p m) [ inl o ↦ k.kept_parts p o | inr n ↦ n ];
      kept_ballots = λ r m. elim (f.kept_ballots r m) [ inl o ↦ k.kept_ballots r o | inr n ↦ n ];
      met = λ u m. elim (f.met u m) [ inl o ↦ k.met u o | inr n ↦ n ];
      askers = λ u m. elim (f.askers u m) [ inl o ↦ k.askers u o | inr n ↦ n ];
    }

actor_sound : (top : TopologyValue) (x : Run) (f : ℕ → ShardState) (node : ℕ) (b : ShardState) → ((m : ℕ) → ShardSound top x m (f m)) → ShardSound top x node b → (m : ℕ) → ShardSound top x m (with_actor f node b m)
actor_sound top x f node b k new m = go (m == node) refl
  where
    go : (t : Bool) → (m == node) ≡ t → ShardSound top x m (cond t b (f m))
    go true e = subst (λ n. ShardSound top x n b) (sym (eqb-true m node e)) new
    go false e = k m

pub shard_step_kept : (top : TopologyValue) (w : Run) (node : ℕ) (st : ShardStep) (ev : RunEvent) → Inv top w → Able top w node (w.shards node) st → ((m : ℕ) → Played top (after_shard (Ok st) w ev node) m)
    → Inv top (after_shard (Ok st) w ev node)
shard_step_kept top w node st ev inv k played =
    let x = after_shard (Ok st) w ev node in
    let gr = shard_run_grows top w node st ev k.grows in
    let f = k.fresh x gr (actor_same w.shards node st.state) in
    record {
      shards = actor_sound top x w.shards node st.state (λ m. shard_grows gr (inv.shards m)) (fresh_sound (shard_grows gr (inv.shards node)) f);
      played = played;
      sessions = λ i. session_grows gr (inv.sessions i);
      sent = λ e m. elim (Contains-append_cases w.sent st.sends e m) [ inl o ↦ says_grows top e.from e.to e.time gr e.body (inv.sent e o) | inr n ↦ f.sends e n ];
      submitted = record { accepted = inv.submitted.accepted; number = inv.submitted.number; one = inv.submitted.one; placed = inv.submitted.placed };
      transcript = λ c m. completed_grows gr (inv.transcript c m);
    }
