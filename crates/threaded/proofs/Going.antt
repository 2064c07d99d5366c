-- Replays, cut in two.
use Rattle.std.proofs.Common.{◌≡◌, ◌∙◌, List, [], ◌∷◌, ◌++◌, ℕ, Option, Some, None, refl, sym, ap, subst}
use Rattle.std.specs.Prelude.{option_map, option_and_then}
use Rattle.std.proofs.lemmas.List.{append_assoc}
use Rattle.messages.specs.declared.event.ActorEvent.{ActorEvent}
use Rattle.messages.specs.Topology.{TopologyValue}
use Rattle.messages.specs.Actors.{ActorState, ActorStep, actor_step, Replayed, before_rest, replay}
use Rattle.world.proofs.replays.Replays.{unfolds}

-- an event that is refused ends a replay
pub replay_stops : (top : TopologyValue) (me : ℕ) (a : ActorState) (xs : List ActorEvent) (x : ActorEvent) (q : Replayed)
    → replay top me a xs ≡ Some q → actor_step top me q.state x ≡ None → replay top me a (xs ++ x ∷ []) ≡ None
replay_stops top me a [] x q e none =
    let is : record { state = a; sent = []; finished = [] } ≡ q = cc in
    ap (option_and_then (λ (t : ActorStep). option_map (before_rest t) (replay top me t.state []))) (ap (λ (z : Replayed). actor_step top me z.state x) is ∙ none)
replay_stops top me a (y ∷ ys) x q e none =
    let u = unfolds top me a y ys q e in
    let state : u.rest.state ≡ q.state = ap (λ (z : Replayed). z.state) u.whole in
    let ih = replay_stops top me u.step.state ys x u.rest u.replays (ap (λ z. actor_step top me z x) state ∙ none) in
    ap (option_and_then (λ (t : ActorStep). option_map (before_rest t) (replay top me t.state (ys ++ x ∷ [])))) u.takes ∙ ap (option_map (before_rest u.step)) ih

-- so where the replay goes on, the actor takes the event
pub replay_takes : (top : TopologyValue) (me : ℕ) (a : ActorState) (xs : List ActorEvent) (x : ActorEvent) (q r : Replayed)
    → replay top me a xs ≡ Some q → replay top me a (xs ++ x ∷ []) ≡ Some r → (s : ActorStep) × (actor_step top me q.state x ≡ Some s)
replay_takes top me a xs x q r e goes = by (actor_step top me q.state x) refl
  where
    by : (o : Option ActorStep) → actor_step top me q.state x ≡ o → (s : ActorStep) × (actor_step top me q.state x ≡ Some s)
    by (Some s) h = (s, h)
    by None h = let none = replay_stops top me a xs x q e h in absurd (cc)

-- the replay of the rest
pub record Continues (top : TopologyValue) (me : ℕ) (ys : List ActorEvent) (q r : Replayed) : Type 0 where
  pub rest : Replayed
  pub replays : replay top me q.state ys ≡ Some rest
  pub sent : r.sent ≡ q.sent ++ rest.sent

pub replay_continues : (top : TopologyValue) (me : ℕ) (a : ActorState) (xs ys : List ActorEvent) (q r : Replayed)
    → replay top me a xs ≡ Some q → replay top me a (xs ++ ys) ≡ Some r → Continues top me ys q r
replay_continues top me a [] ys q r e whole =
    let is : record { state = a; sent = []; finished = [] } ≡ q = cc in
    subst (λ (z : Replayed). Continues top me ys z r) is (record { rest = r; replays = whole; sent = refl })
replay_continues top me a (x ∷ xs) ys q r e whole =
    let u = unfolds top me a x xs q e in
    let v = unfolds top me a x (xs ++ ys) r whole in
    let both : Some u.step ≡ Some v.step = sym u.takes ∙ v.takes in
    let same : v.step ≡ u.step = cc in
    let ih = replay_continues top me u.step.state xs ys u.rest v.rest u.replays (ap (λ (s : ActorStep). replay top me s.state (xs ++ ys)) (sym same) ∙ v.replays) in
    record {
      rest = ih.rest;
      replays = ap (λ (z : Replayed). replay top me z.state ys) (sym u.whole) ∙ ih.replays;
      sent =
          ap (λ (z : Replayed). z.sent) (sym v.whole) ∙ ap (λ (s : ActorStep). s.sends ++ v.rest.sent) same ∙ ap (λ l. u.step.sends ++ l) ih.sent
          ∙ sym (append_assoc u.step.sends u.rest.sent ih.rest.sent) ∙ ap (λ (z : Replayed). z.sent ++ ih.rest.sent) u.whole;
    }
