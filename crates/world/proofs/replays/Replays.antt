-- Replays: one event less at the front, one more at the end, and the times of what is sent.
use Rattle.std.proofs.Common.{append-nil, ◌≡◌, ◌∙◌, ℕ, ◌<◌, List, [], ◌∷◌, ◌++◌, Option, Some, None, inl, inr, refl, sym, ap, subst, arith}
use Rattle.std.specs.Prelude.{option_map, option_and_then, Contains}
use Rattle.std.specs.Prelude.{AllPairs}
use Rattle.std.specs.List.{cons_option}
use Rattle.std.specs.Option.{unwrap_or}
use Rattle.std.proofs.lemmas.List.{append_assoc}
use Rattle.messages.specs.declared.envelope.Envelope.{Envelope}
use Rattle.messages.specs.Topology.{TopologyValue}
use Rattle.messages.specs.declared.event.ActorEvent.{ActorEvent}
use Rattle.messages.specs.Actors.{opening_actor, ActorState, clock_of, ActorStep, actor_step, Replayed, before_rest, replay}
use Rattle.world.proofs.lists.Members.{none_in_empty, contains_cases, Contains-append_cases}
use Rattle.world.specs.Journals.{clocks_from, ClocksRise}
use Rattle.world.proofs.lists.Pairs.{no_pairs, more_pairs}
use Rattle.world.proofs.steps.Ticks.{step_ticks}

-- the first event is taken, and the rest replays from there
pub record Unfolds (top : TopologyValue) (me : ℕ) (a : ActorState) (x : ActorEvent) (xs : List ActorEvent) (r : Replayed) : Type 0 where
  pub step : ActorStep
  pub rest : Replayed
  pub takes : actor_step top me a x ≡ Some step
  pub replays : replay top me step.state xs ≡ Some rest
  pub whole : before_rest step rest ≡ r

pub unfolds : (top : TopologyValue) (me : ℕ) (a : ActorState) (x : ActorEvent) (xs : List ActorEvent) (r : Replayed)
    → replay top me a (x ∷ xs) ≡ Some r → Unfolds top me a x xs r
unfolds top me a x xs r e = go (actor_step top me a x) refl e
  where
    then_go : (s : ActorStep) → actor_step top me a x ≡ Some s → (o : Option Replayed) → replay top me s.state xs ≡ o → option_map (before_rest s) o ≡ Some r
        → Unfolds top me a x xs r
    then_go s q None p h = absurd (cc)
    then_go s q (Some rest) p h =
        let is : before_rest s rest ≡ r = cc in
        record { step = s; rest = rest; takes = q; replays = p; whole = is }

    go : (o : Option ActorStep) → actor_step top me a x ≡ o
        → option_and_then (λ (s : ActorStep). option_map (before_rest s) (replay top me s.state xs)) o ≡ Some r → Unfolds top me a x xs r
    go None q h = absurd (cc)
    go (Some s) q h = then_go s q (replay top me s.state xs) refl h

-- what a list has after an optional element
listed : {X : Type 0} (o : Option X) (xs ys : List X) → cons_option o xs ++ ys ≡ cons_option o (xs ++ ys)
listed None xs ys = refl
listed (Some x) xs ys = refl

-- one event more at the end
pub replay_push : (top : TopologyValue) (me : ℕ) (a : ActorState) (xs : List ActorEvent) (x : ActorEvent) (r : Replayed) (s : ActorStep)
    → replay top me a xs ≡ Some r → actor_step top me r.state x ≡ Some s
    → replay top me a (xs ++ x ∷ []) ≡ Some (record { state = s.state; sent = r.sent ++ s.sends; finished = r.finished ++ cons_option s.finishes [] })
replay_push top me a [] x r s e takes =
    let is : record { state = a; sent = []; finished = [] } ≡ r = cc in
    let takes' : actor_step top me a x ≡ Some s = ap (λ (z : Replayed). actor_step top me z.state x) is ∙ takes in
    ap (option_and_then (λ (t : ActorStep). option_map (before_rest t) (replay top me t.state []))) takes'
    ∙ ap (λ l. Some (record { state = s.state; sent = l; finished = cons_option s.finishes [] })) (append-nil s.sends)
    ∙ ap (λ (z : Replayed). Some (record { state = s.state; sent = z.sent ++ s.sends; finished = z.finished ++ cons_option s.finishes [] })) is
replay_push top me a (y ∷ ys) x r s e takes =
    let u = unfolds top me a y ys r e in
    let state : u.rest.state ≡ r.state = ap (λ (z : Replayed). z.state) u.whole in
    let ih = replay_push top me u.step.state ys x u.rest s u.replays (ap (λ z. actor_step top me z x) state ∙ takes) in
    ap (option_and_then (λ (t : ActorStep). option_map (before_rest t) (replay top me t.state (ys ++ x ∷ [])))) u.takes
    ∙ ap (option_map (before_rest u.step)) ih
    ∙ ap (λ l. Some (record { state = s.state; sent = l; finished = cons_option u.step.finishes (u.rest.finished ++ cons_option s.finishes []) }))
    (sym (append_assoc u.step.sends u.rest.sent s.sends))
    ∙ ap (λ l. Some (record { state = s.state; sent = (u.step.sends ++ u.rest.sent) ++ s.sends; finished = l }))
    (sym (listed u.step.finishes u.rest.finished (cons_option s.finishes [])))
    ∙ ap (λ (z : Replayed). Some (record { state = s.state; sent = z.sent ++ s.sends; finished = z.finished ++ cons_option s.finishes [] })) u.whole

-- what a replay sends is above the clock that it begins with
pub sent_above : (top : TopologyValue) (me : ℕ) (a : ActorState) (xs : List ActorEvent) (r : Replayed) → replay top me a xs ≡ Some r
    → (e : Envelope) → Contains r.sent e → clock_of a < e.time
sent_above top me a [] r h e m =
    let is : record { state = a; sent = []; finished = [] } ≡ r = cc in
    absurd (none_in_empty e (subst (λ (z : Replayed). Contains z.sent e) (sym is) m))
sent_above top me a (x ∷ xs) r h e m =
    let u = unfolds top me a x xs r h in
    let t = step_ticks top me a x u.step u.takes in
    elim (Contains-append_cases u.step.sends u.rest.sent e (subst (λ (z : Replayed). Contains z.sent e) (sym u.whole) m)) [
      | inl now ↦ let is = (t.sends e now).1 in subst (λ z. clock_of a < z) (sym is) t.rises
      | inr later ↦
          let above = sent_above top me u.step.state xs u.rest u.replays e later in
          let rises = t.rises in
          omega arith
    ]

-- the next event is above this time
abbrev pub NextAbove : TopologyValue → ℕ → ℕ → ActorState → List ActorEvent → Type 0
NextAbove top me limit a [] = Unit {0}
NextAbove top me limit a (x ∷ xs) = (s : ActorStep) → actor_step top me a x ≡ Some s → limit < clock_of s.state

-- and then so is all that is sent
pub rest_above : (top : TopologyValue) (me limit : ℕ) (a : ActorState) (xs : List ActorEvent) (r : Replayed) → replay top me a xs ≡ Some r
    → NextAbove top me limit a xs → (e : Envelope) → Contains r.sent e → limit < e.time
rest_above top me limit a [] r h k e m =
    let is : record { state = a; sent = []; finished = [] } ≡ r = cc in
    absurd (none_in_empty e (subst (λ (z : Replayed). Contains z.sent e) (sym is) m))
rest_above top me limit a (x ∷ xs) r h k e m =
    let u = unfolds top me a x xs r h in
    let t = step_ticks top me a x u.step u.takes in
    let lt = k u.step u.takes in
    elim (Contains-append_cases u.step.sends u.rest.sent e (subst (λ (z : Replayed). Contains z.sent e) (sym u.whole) m)) [
      | inl now ↦ subst (λ z. limit < z) (sym (t.sends e now).1) lt
      | inr later ↦ let above = sent_above top me u.step.state xs u.rest u.replays e later in omega arith
    ]

-- the next event is above the clock
pub next_above : (top : TopologyValue) (me : ℕ) (a : ActorState) (xs : List ActorEvent) → NextAbove top me (clock_of a) a xs
next_above top me a [] = tt
next_above top me a (x ∷ xs) = λ s takes. (step_ticks top me a x s takes).rises

-- ## The clocks of a journal

-- they are above the clock that it begins with, and rise
clocks_above : (top : TopologyValue) (me : ℕ) (xs : List ActorEvent) (a : ActorState)
    → ((m : ℕ) → Contains (clocks_from top me a xs) m → clock_of a < m) × AllPairs (λ m n. m < n) (clocks_from top me a xs)
clocks_above top me [] a = (λ m i. absurd (none_in_empty m i), no_pairs (λ m n. m < n))
clocks_above top me (x ∷ xs) a = go (λ b. clocks_above top me xs b) (actor_step top me a x) refl
  where
    clocks_after : Option ActorStep → List ℕ
    clocks_after o = unwrap_or (option_map (λ (s : ActorStep). clock_of s.state ∷ clocks_from top me s.state xs) o) []

    go : ((b : ActorState) → ((m : ℕ) → Contains (clocks_from top me b xs) m → clock_of b < m) × AllPairs (λ m n. m < n) (clocks_from top me b xs))
        → (o : Option ActorStep) → actor_step top me a x ≡ o
        → ((m : ℕ) → Contains (clocks_after o) m → clock_of a < m) × AllPairs (λ m n. m < n) (clocks_after o)
    go ih None q = (λ m i. absurd (none_in_empty m i), no_pairs (λ m n. m < n))
    go ih (Some s) q =
        let up = (step_ticks top me a x s q).rises in
        let rest = ih s.state in (
          λ m i. elim (contains_cases _ m _ i) [ inl same ↦ (omega arith) | inr later ↦ let above = rest.0 m later in omega arith ],
          more_pairs (λ m n. m < n) (clock_of s.state) (clocks_from top me s.state xs) rest.0 rest.1,
        )

pub clocks_rise : (top : TopologyValue) (me : ℕ) → ClocksRise top me
clocks_rise top me journal = (clocks_above top me journal (opening_actor top me)).1
