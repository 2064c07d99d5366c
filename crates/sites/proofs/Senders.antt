-- Who sent what an actor of a site handled.
use Rattle.std.proofs.Common.{◌≡◌, ◌∙◌, ℕ, ◌<◌, Bool, true, false, List, [], ◌∷◌, ◌++◌, Option, Some, None, ◌⊎◌, inl, inr, refl, sym, ap, subst, eq-eqb, eqb-true}
use Rattle.std.specs.Prelude.{◌==◌, ◌&&◌, not, nat_lt, if◌then◌else◌, Contains}
use Rattle.std.specs.List.{list_all}
use Rattle.std.proofs.lemmas.Bool.{and_parts, and_from, ltb-true, lt-ltb}
use Rattle.std.proofs.lemmas.List.Elements.{Contains-append_left}
use Rattle.world.proofs.lists.Members.{contains_flat, flat_contains}
use Rattle.store.proofs.lists.Lists.{given, given_only, first_or_rest, none_in_empty, kept_only}
use Rattle.messages.specs.declared.envelope.Envelope.{Envelope}
use Rattle.messages.specs.declared.outcome.Outcome.{Outcome}
use Rattle.messages.specs.declared.event.ActorEvent.{ActorEvent}
use Rattle.messages.specs.declared.event.ActorEvent.TheVariants.{Handle}
use Rattle.messages.specs.Topology.{TopologyValue, node_count}
use Rattle.actors.specs.Machines.{IsPast}
use Rattle.threaded.specs.declared.actor.Actor.{Actor}
use Rattle.threaded.specs.Machines.{CameFrom, untaken_of}
use Rattle.site.specs.Story as story
use Rattle.site.specs.Story.{Story, Happening, Did, Heard, Given, site_of, is_here, is_near, is_far, event_of, sends_of, journal, sent, outcomes, arrivals_by, handled_by, departures_by, heard_by, IsFor, MayHappen}
use Rattle.site.specs.Sites.{IsMoment}
use Rattle.sites.specs.Sites.{IsSiteStory}

-- ## Who is here

pub is_here_of : (top : TopologyValue) (dc node : ℕ) → node < node_count top → site_of top node ≡ dc → is_here top dc node ≡ true
is_here_of top dc node lt is = and_from _ _ (lt-ltb node (node_count top) lt) (eq-eqb (site_of top node) dc is)

pub here_is : (top : TopologyValue) (dc node : ℕ) → is_here top dc node ≡ true → (node < node_count top) × (site_of top node ≡ dc)
here_is top dc node here =
    let p = and_parts (nat_lt node (node_count top)) (site_of top node == dc) here in
    (ltb-true node (node_count top) p.0, eqb-true (site_of top node) dc p.1)

-- ## One site

-- a machine came from what an actor did
pub record HasMachine (top : TopologyValue) (s : Story) (node : ℕ) : Type 0 where
  pub machine : Actor
  pub count : ℕ
  pub clock : ℕ
  pub recorded : IsPast CameFrom untaken_of top node machine (journal s node) (outcomes s node) (sent s node) count clock true

module _ (top : TopologyValue) (dc : ℕ) (s : Story) (is : IsSiteStory top dc s) where
  pub now : IsMoment CameFrom untaken_of top dc s
  now = is.0.moments s ([], sym (append_nil s))
    where
      append_nil : {X : Type 0} (xs : List X) → xs ++ [] ≡ xs
      append_nil [] = refl
      append_nil (x ∷ xs) = ap (λ l. x ∷ l) (append_nil xs)

  pub machine_of : (node : ℕ) → is_here top dc node ≡ true → HasMachine top s node
  machine_of node here =
      let t = is.1.timed node here in
      let m = t.0 in
      let at_node : IsPast CameFrom untaken_of top node m.machine (journal s node) (outcomes s node) (sent s node) m.accepted m.clock m.timed =
      subst (λ n. IsPast CameFrom untaken_of top n m.machine (journal s node) (outcomes s node) (sent s node) m.accepted m.clock m.timed) t.1.0 t.1.1 in
      record {
        machine = m.machine;
        count = m.accepted;
        clock = m.clock;
        recorded = subst (λ b. IsPast CameFrom untaken_of top node m.machine (journal s node) (outcomes s node) (sent s node) m.accepted m.clock b) t.2 at_node;
      }

  each_of : {X : Type 0} (p : X → Bool) (xs : List X) (x : X) → list_all p xs ≡ true → Contains xs x → p x ≡ true
  each_of p [] x all m = absurd (none_in_empty x m)
  each_of p (y ∷ ys) x all m = elim (first_or_rest y x ys m) [
    | inl same ↦ ap p (sym same) ∙ (and_parts (p y) (list_all p ys) all).0
    | inr there ↦ each_of p ys x (and_parts (p y) (list_all p ys) all).1 there
  ]

  -- what an event of an actor sent is from that actor, among what it sent
  from_its : (n : ℕ) (x : ActorEvent) (sends : List Envelope) (ended : Option (ℕ × Outcome)) (e : Envelope) → Contains s (Did n x sends ended) → Contains sends e
      → (e.from ≡ n) × ((is_here top dc n ≡ true) × Contains (sent s n) e)
  from_its n x sends ended e has in_sends =
      let here = (now.may (Did n x sends ended) has).0 in
      let self : (n == n) ≡ true = eq-eqb n n refl in
      let all : sends_of n (Did n x sends ended) ≡ sends = rw self refl in
      let there : Contains (sent s n) e = contains_flat (sends_of n) s (Did n x sends ended) e has (subst (λ l. Contains l e) (sym all) in_sends) in
      (eqb-true e.from n (each_of (λ (z : Envelope). z.from == n) (sent s n) e (is.1.own n here) there), (here, there))

  -- so it is among what its sender sent, who is here
  pub record IsOwn (e : Envelope) : Type 0 where
    pub here : is_here top dc e.from ≡ true
    pub sent : Contains (story.sent s e.from) e

  own_of : (n : ℕ) (x : ActorEvent) (sends : List Envelope) (ended : Option (ℕ × Outcome)) (e : Envelope) → Contains s (Did n x sends ended) → Contains sends e → IsOwn e
  own_of n x sends ended e has in_sends =
      let f = from_its n x sends ended e has in_sends in
      record { here = subst (λ k. is_here top dc k ≡ true) (sym f.0) f.1.0; sent = subst (λ k. Contains (story.sent s k) e) (sym f.0) f.1.1 }

  -- what was sent to other sites is from an actor here
  pub departure_own : (e : Envelope) → Contains (story.departures top dc s) e → IsOwn e
  departure_own e left =
      let p = flat_contains (departures_by top dc) s e left in
      by p.0 p.1 p.2
    where
      by : (h : Happening) → Contains s h → Contains (departures_by top dc h) e → IsOwn e
      by (Did n x sends ended) in_s there = own_of n x sends ended e in_s (kept_only (is_far top dc) sends e there).0
      by (Heard from z) in_s there = absurd (none_in_empty e there)
      by (Given z) in_s there = absurd (none_in_empty e there)

  -- What an actor handled is for it, and is from an actor here or came from another site.
  pub record IsTaken (node : ℕ) (e : Envelope) : Type 0 where
    pub its : e.to ≡ node
    pub from : IsOwn e ⊎ ((e.from < node_count top) × Contains (story.heard s) e)

  pub taken_of : (node : ℕ) (e : Envelope) → Contains (journal s node) (Handle e) → IsTaken node e
  taken_of node e has =
      let p = given_only (event_of node) s (Handle e) has in
      handled_at p.0 p.1 p.2
    where
      came : Contains (story.handled s) e → IsOwn e ⊎ ((e.from < node_count top) × Contains (story.heard s) e)
      came held =
          let arrived : Contains (story.arrivals top dc s) e = subst (λ l. Contains l e) (sym now.handles.1) (Contains-append_left (story.handled s) now.handles.0 e held) in
          let p = flat_contains (arrivals_by top dc) s e arrived in
          by p.0 p.1 p.2
        where
          by : (h : Happening) → Contains s h → Contains (arrivals_by top dc h) e → IsOwn e ⊎ ((e.from < node_count top) × Contains (story.heard s) e)
          by (Did n x sends ended) in_s there = inl (own_of n x sends ended e in_s (kept_only (is_near top dc) sends e there).0)
          by (Heard from z) in_s there = elim (first_or_rest z e [] there) [
            | inl same ↦
                let may = now.may (Heard from z) in_s in
                let parts = and_parts (not (from == dc)) (is_here top from z.from && is_near top dc z) may in
                let lt = (here_is top from z.from (and_parts (is_here top from z.from) (is_near top dc z) parts.1).0).0 in
                inr (subst (λ (y : Envelope). y.from < node_count top) same lt, given heard_by s (Heard from z) e in_s (ap Some same))
            | inr none ↦ absurd (none_in_empty e none)
          ]
          by (Given z) in_s there = absurd (none_in_empty e there)

      handled_at : (h : Happening) → Contains s h → event_of node h ≡ Some (Handle e) → IsTaken node e
      handled_at (Did n x sends ended) in_s is_event = which (n == node) refl is_event
        where
          which : (b : Bool) → (n == node) ≡ b → (if b then Some x else None) ≡ Some (Handle e) → IsTaken node e
          which true q same =
              let event : x ≡ Handle e = cc in
              let mine : n ≡ node = eqb-true n node q in
              let may = now.may (Did n x sends ended) in_s in
              record {
                its = subst (λ y. IsFor n y) event may.1 ∙ mine;
                from = came (given handled_by s (Did n x sends ended) e in_s (ap envelope_in event));
              }
            where
              envelope_in : ActorEvent → Option Envelope
              envelope_in y = handled_by (Did n y sends ended)
          which false q same = absurd (cc)
      handled_at (Heard from z) in_s is_event = absurd (cc)
      handled_at (Given z) in_s is_event = absurd (cc)
