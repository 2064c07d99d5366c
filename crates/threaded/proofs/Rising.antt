-- The operations of a session end in the order of their numbers: at each outcome its home is the one that the earlier numbers left.
use Rattle.std.proofs.Common.{◌≡◌, ◌∙◌, ℕ, ◌+◌, ◌<◌, ◌≤◌, Bool, true, false, cond, List, [], ◌∷◌, map, Option, Some, None, Result, Ok, Err, ◌⊎◌, inl, inr, refl, sym, ap, subst, arith}
use Rattle.std.specs.Prelude.{nat_lt, if◌then◌else◌, Contains}
use Rattle.std.specs.List.{cons_option}
use Rattle.std.specs.Option.{unwrap_or}
use Rattle.std.proofs.lemmas.Bool.Decides.{nat_tests}
use Rattle.logical_time.specs.Stamps.{WriterValue}
use Rattle.logical_time.specs.declared.fault.Fault.{Fault}
use Rattle.messages.specs.declared.body.Body.{Body}
use Rattle.messages.specs.declared.event.ActorEvent.{ActorEvent}
use Rattle.messages.specs.declared.event.ActorEvent.TheVariants.{Submit, Handle, Collect}
use Rattle.messages.specs.declared.op.Op.{Op}
use Rattle.messages.specs.declared.op.Op.TheVariants as op
use Rattle.messages.specs.declared.outcome.Outcome.TheVariants as outcome
use Rattle.messages.specs.Topology.{TopologyValue, is_shard, home_of}
use Rattle.messages.specs.Clock.{ticked}
use Rattle.messages.specs.Session.{SessionState, SessionStep, Finished, new_session, is_idle}
use Rattle.messages.specs.SessionEvents.{heard, session_handle, session_taken}
use Rattle.messages.specs.Submitting.{move_if, begun, plan_fault, busy_or, submit_fault, submit_if, session_submit}
use Rattle.messages.specs.Actors.{OfSession, ActorStep, of_session, actor_step, Replayed, replay, replay_of, home_after, home_before}
use Rattle.world.specs.declared.completed.Completed.{Completed}
use Rattle.world.specs.Journals.{finished_as}
use Rattle.world.proofs.steps.HeardCases.{heard_kinds}
use Rattle.world.proofs.steps.Moves.{session_took}
use Rattle.world.proofs.replays.Replays.{unfolds}
use Rattle.threaded.proofs.Ending.{on_clock_is}
use Rattle.threaded.proofs.Machines.{opens_session}
use Rattle.world.proofs.lists.Members.{none_in_empty, contains_first, contains_rest, contains_cases}

-- ## What an event ends

-- the number of the operation that a session ends next: the open one, or the next one that it accepts
abbrev next_end : SessionState → ℕ
next_end a = cond (is_idle a.current) (a.count + 1) a.count

-- an event ended no operation, or the one that was next
abbrev EndsNext : SessionState → SessionState → Type 0
EndsNext a b =
    ((b.untaken ≡ None) × (next_end b ≡ next_end a))
    ⊎ ((f : Finished) × (b.untaken ≡ Some f) × (f.number ≡ next_end a) × (next_end b ≡ next_end a + 1))

heard_ends : (top : TopologyValue) (me n : ℕ) (a : SessionState) (from : ℕ) (m : Body) → a.untaken ≡ None → EndsNext a (heard top me n a from m).state
heard_ends top me n a from m none =
    heard_kinds top me n a from m (λ st. EndsNext a st.state)
    (record {
      still = inl (none, refl);
      goes_on = λ o sends busy open_still. inl (none, rw (open_still, busy) refl);
      over = λ floor dependencies o busy. inr (record { number = a.count; outcome = o }, refl, rw busy refl, rw busy refl);
    })

begun_ends : (top : TopologyValue) (me n : ℕ) (a : SessionState) (o : Op) → is_idle a.current ≡ true → EndsNext a (begun top me n a o).state
begun_ends top me n a (op.Batch batch) idle = inl (refl, rw idle refl)
begun_ends top me n a (op.Read read) idle = inl (refl, rw idle refl)
begun_ends top me n a (op.Move dc) idle = by a.dependencies
  where
    by : (ws : List WriterValue) → EndsNext a (move_if ws top me n a dc).state
    by [] = inr (record { number = a.count + 1; outcome = outcome.Moved dc 0 }, refl, rw idle refl, rw idle refl)
    by (w ∷ ws) = inl (refl, rw idle refl)

was_idle : (b : Bool) (f : Option Fault) → busy_or b f ≡ None → b ≡ true
was_idle true f q = refl
was_idle false f q = absurd (cc)

-- a session's step, whose outcome is taken
abbrev Stepped : SessionState → ActorStep → Type 0
Stepped a s = (st : SessionStep) × (s ≡ session_took st) × EndsNext a st.state

took : (a : SessionState) (r : Result SessionStep Fault) (s : ActorStep) → ((st : SessionStep) → r ≡ Ok st → EndsNext a st.state) → of_session r ≡ Some s → Stepped a s
took a (Err e) s each q = absurd (cc)
took a (Ok st) s each q = let is : session_took st ≡ s = cc in (st, sym is, each st refl)

step_ends : (top : TopologyValue) (me : ℕ) (a : SessionState) (x : ActorEvent) (s : ActorStep) → a.untaken ≡ None → actor_step top me (OfSession a) x ≡ Some s → Stepped a s
step_ends top me a (Submit o) s none q = took a (session_submit top me a o) s (λ st h. by st (submit_fault top a o) refl h) q
  where
    by : (st : SessionStep) (f : Option Fault) → submit_fault top a o ≡ f → submit_if f top me a o ≡ Ok st → EndsNext a st.state
    by st (Some fault) is h = absurd (cc)
    by st None is h =
        on_clock_is (λ (z : SessionStep). EndsNext a z.state) (ticked a.clock a.clock) (λ n. begun top me n a o) st
        (λ n. begun_ends top me n a o (was_idle (is_idle a.current) (plan_fault top a.home o) is)) h
step_ends top me a (Handle e) s none q =
    took a (session_handle top me a e) s
    (λ st h. on_clock_is (λ (z : SessionStep). EndsNext a z.state) (ticked a.clock e.time) (λ n. heard top me n a e.from e.body) st (λ n. heard_ends top me n a e.from e.body none) h) q
step_ends top me a (Collect time) s none q = absurd (cc)

-- ## What a journal ends

-- these numbers rise, and the first is above this one
abbrev pub Rises : ℕ → List Finished → Type 0
Rises m [] = Unit {0}
Rises m (f ∷ fs) = (m < f.number) × Rises f.number fs

replay_rises : (top : TopologyValue) (me : ℕ) (xs : List ActorEvent) (a : SessionState) (m : ℕ) (r : Replayed) → a.untaken ≡ None → m < next_end a
    → replay top me (OfSession a) xs ≡ Some r → Rises m r.finished
replay_rises top me [] a m r none lt h =
    let is : record { state = OfSession a; sent = []; finished = [] } ≡ r = cc in
    subst (λ (z : Replayed). Rises m z.finished) is tt
replay_rises top me (x ∷ xs) a m r none lt h =
    let u = unfolds top me (OfSession a) x xs r h in
    let e = step_ends top me a x u.step none u.takes in
    let went : replay top me (OfSession (session_taken e.0.state)) xs ≡ Some u.rest =
    ap (λ (z : ActorStep). replay top me z.state xs) (sym e.1) ∙ u.replays in
    let whole : r.finished ≡ cons_option e.0.state.untaken u.rest.finished =
    sym (ap (λ (z : Replayed). z.finished) u.whole) ∙ ap (λ (z : ActorStep). cons_option z.finishes u.rest.finished) e.1 in
    subst (λ l. Rises m l) (sym whole) (by e.0.state u.rest e.2 (λ n above. replay_rises top me xs (session_taken e.0.state) n u.rest refl above went))
  where
    by : (b : SessionState) (rest : Replayed) → EndsNext a b → ((n : ℕ) → n < next_end b → Rises n rest.finished) → Rises m (cons_option b.untaken rest.finished)
    by b rest (inl same) later = subst (λ o. Rises m (cons_option o rest.finished)) (sym same.0) (later m (subst (λ (n : ℕ). m < n) (sym same.1) lt))
    by b rest (inr over) later =
        let number = over.2 in
        let next = over.3 in
        subst (λ o. Rises m (cons_option o rest.finished)) (sym over.1) (omega (arith, number, lt), later over.0.number (omega (arith, number, next)))

-- the numbers of a session's outcomes rise
pub outcomes_rise : (top : TopologyValue) (node : ℕ) (journal : List ActorEvent) (r : Replayed) → is_shard top node ≡ false → replay_of top node journal ≡ Some r
    → Rises 0 r.finished
outcomes_rise top node journal r away h =
    replay_rises top node journal (new_session (unwrap_or (home_of top node) 0)) 0 r refl (omega arith) (ap (λ a. replay top node a journal) (sym (opens_session top node away)) ∙ h)

-- ## Homes

-- each of these entries is of the home where the moves before it left the session
abbrev pub GoHome : ℕ → List Completed → Type 0
GoHome home [] = Unit {0}
GoHome home (c ∷ cs) = (c.home ≡ home) × GoHome (home_after home c.outcome) cs

-- outcomes of later numbers change nothing
later_stays : (home n m : ℕ) (fs : List Finished) → Rises m fs → n ≤ m → home_before home fs n ≡ home
later_stays home n m [] rise le = refl
later_stays home n m (f ∷ fs) rise le =
    let lt = rise.0 in
    let not_before : nat_lt f.number n ≡ false = grind (arith, nat_tests) in
    rw not_before (later_stays home n f.number fs rise.1 (omega (arith, lt, le)))

above : (m : ℕ) (cs : List Completed) (d : Completed) → Rises m (map finished_as cs) → Contains cs d → m < d.number
above m [] d rise has = absurd (none_in_empty d has)
above m (c ∷ cs) d rise has = elim (contains_cases c d cs has) [
  | inl same ↦ subst (λ (z : Completed). m < z.number) (sym same) rise.0
  | inr later ↦ let lt = rise.0 in let more = above c.number cs d rise.1 later in omega (arith, lt, more)
]

-- so the home by numbers is the home one after the other
pub go_home : (home m : ℕ) (cs : List Completed) → Rises m (map finished_as cs)
    → ((c : Completed) → Contains cs c → c.home ≡ home_before home (map finished_as cs) c.number) → GoHome home cs
go_home home m [] rise each = tt
go_home home m (c ∷ cs) rise each = (
  each c (contains_first c cs) ∙ at c.number false (itself c.number) ∙ later_stays home c.number c.number (map finished_as cs) rise.1 (omega arith),
  go_home (home_after home c.outcome) c.number cs rise.1 (λ d later. each d (contains_rest c d cs later) ∙ at d.number true (before c.number d.number (above c.number cs d rise.1 later))),
)
  where
    at : (n : ℕ) (b : Bool) → nat_lt c.number n ≡ b
        → home_before home (map finished_as (c ∷ cs)) n ≡ home_before (if b then home_after home c.outcome else home) (map finished_as cs) n
    at n b is = ap (λ t. home_before (if t then home_after home c.outcome else home) (map finished_as cs) n) is

    itself : (n : ℕ) → nat_lt n n ≡ false
    itself n = grind (arith, nat_tests)

    before : (n k : ℕ) → n < k → nat_lt n k ≡ true
    before n k lt = grind (arith, nat_tests)
