-- What an actor sends in an event carries its node and the clock of the event, and its clock is then that of the event.
use Rattle.std.proofs.Common.{◌≡◌, ◌∙◌, ℕ, List, [], ◌∷◌, ◌++◌, map, inl, inr, refl, ap}
use Rattle.std.specs.Prelude.{Contains}
use Rattle.messages.specs.declared.body.Body.{Body}
use Rattle.messages.specs.declared.envelope.Envelope.{Envelope}
use Rattle.messages.specs.Topology.{TopologyValue}
use Rattle.messages.specs.Shard.{ShardState, ShardStep}
use Rattle.messages.specs.ShardEvents.{handled}
use Rattle.shard.proofs.lists.Lists.{each_contained}
use Rattle.shard.proofs.steps.Sending.{Gives, handled_gives}
use Rattle.world.proofs.lists.Members.{none_in_empty, contains_cases, contains_one, Contains-append_cases, mapped_from}

-- each of these envelopes is from this node, at this time
abbrev pub AreOwn : ℕ → ℕ → List Envelope → Type 0
AreOwn me n es = (e : Envelope) → Contains es e → (e.from ≡ me) × (e.time ≡ n)

-- the clock after the step, and what it sends
abbrev pub IsOwn : ℕ → ℕ → ShardStep → Type 0
IsOwn me n st = (st.state.clock ≡ n) × AreOwn me n st.sends

module _ {me n : ℕ} where
  pub none : AreOwn me n []
  none e m = absurd (none_in_empty e m)

  pub one : (x : Envelope) → (x.from ≡ me) × (x.time ≡ n) → AreOwn me n (x ∷ [])
  one x q e m = let same = contains_one x e m in (ap (λ (z : Envelope). z.from) same ∙ q.0, ap (λ (z : Envelope). z.time) same ∙ q.1)

  pub first : (x : Envelope) (xs : List Envelope) → (x.from ≡ me) × (x.time ≡ n) → AreOwn me n xs → AreOwn me n (x ∷ xs)
  first x xs q k e m = elim (contains_cases x e xs m) [ inl same ↦ (ap (λ (z : Envelope). z.from) same ∙ q.0, ap (λ (z : Envelope). z.time) same ∙ q.1) | inr r ↦ k e r ]

  pub both : (xs ys : List Envelope) → AreOwn me n xs → AreOwn me n ys → AreOwn me n (xs ++ ys)
  both xs ys k l e m = elim (Contains-append_cases xs ys e m) [ inl a ↦ k e a | inr b ↦ l e b ]

  pub each : {X : Type 0} (f : X → Envelope) (xs : List X) → ((x : X) → ((f x).from ≡ me) × ((f x).time ≡ n)) → AreOwn me n (map f xs)
  each f xs k e m =
      let r = mapped_from f xs e m in let q = k r.0 in
      (ap (λ (z : Envelope). z.from) r.2 ∙ q.0, ap (λ (z : Envelope). z.time) r.2 ∙ q.1)

-- ## A shard's steps

-- what a shard sends at an event has its node and the event's clock
given : (top : TopologyValue) (me n : ℕ) (a : ShardState) (from : ℕ) (b : Body)
    → Gives n a.low (λ e. (e.from ≡ me) × (e.time ≡ n)) (λ y. Unit {0}) (handled top me n a from b)
given top me n a from b =
    handled_gives top me n a from b (λ e. (e.from ≡ me) × (e.time ≡ n)) (λ y. Unit {0})
    (record {
      plain =
          record {
            yes = λ s t. (refl, refl);
            commit = λ s t stamp. (refl, refl);
            done = λ t stamp. (refl, refl);
            repl_begin = λ dc t rows stamp cohorts dependencies. (refl, refl);
            notify = λ s t. (refl, refl);
            prepare_remote = λ s t. (refl, refl);
            dep_check = λ s dependency waiter. (refl, refl);
            dep_ok = λ to dependency waiter commit. (refl, refl);
            check = λ s t time. (refl, refl);
          };
      less = λ y left h. tt;
      old = λ y has. tt;
      asked = λ number time read left is new. tt;
      answers = λ y h. (refl, refl);
      now = λ number read is. (refl, refl);
      at = λ t time commit stamp is. (refl, refl);
      not_by = λ t time is. (refl, refl);
      repl_part = λ dc t rows commit stamp coordinator told. (refl, refl);
    })

pub handled_own : (top : TopologyValue) (me n : ℕ) (a : ShardState) (from : ℕ) (b : Body) → IsOwn me n (handled top me n a from b)
handled_own top me n a from b =
    let g = given top me n a from b in
    (g.clock, λ e m. each_contained (λ (z : Envelope). (z.from ≡ me) × (z.time ≡ n)) (handled top me n a from b).sends g.sends e m)

-- no message moves a shard's horizon
pub handled_low : (top : TopologyValue) (me n : ℕ) (a : ShardState) (from : ℕ) (b : Body) → (handled top me n a from b).state.low ≡ a.low
handled_low top me n a from b = (given top me n a from b).low
