-- A session's event leaves an operation open as it was, or ends it with an outcome; an accepted operation is open, or ended at
-- once. So a machine waits as its session does.
use Rattle.std.proofs.Common.{◌≡◌, ◌∙◌, ℕ, Bool, true, false, List, [], ◌∷◌, Option, Some, None, Ok, ◌⊎◌, inl, inr, refl, sym, ap, subst}
use Rattle.std.specs.Prelude.{not, IsSome}
use Rattle.logical_time.specs.declared.fault.Fault.{Fault}
use Rattle.logical_time.specs.Stamps.{WriterValue}
use Rattle.messages.specs.declared.outcome.Outcome.{Outcome}
use Rattle.messages.specs.declared.op.Op.{Op}
use Rattle.messages.specs.declared.op.Op.TheVariants as op
use Rattle.messages.specs.declared.envelope.Envelope.{Envelope}
use Rattle.messages.specs.declared.body.Body.{Body}
use Rattle.messages.specs.Topology.{TopologyValue}
use Rattle.messages.specs.Clock.{ticked, on_clock}
use Rattle.messages.specs.Session.{SessionState, SessionStep, is_idle}
use Rattle.messages.specs.Submitting.{move_if, begun, submit_fault, submit_if, session_submit}
use Rattle.messages.specs.SessionEvents.{heard, session_handle}
use Rattle.messages.specs.Actors.{ActorState, OfShard, OfSession}
use Rattle.client.specs.declared.kept.SessionKept.{SessionKept}
use Rattle.client.specs.Current.{open_of}
use Rattle.client.specs.State.{state_of, finished_of}
use Rattle.world.proofs.steps.HeardCases.{heard_kinds}
use Rattle.threaded.specs.declared.actor.Actor.{Actor}
use Rattle.threaded.specs.declared.actor.Actor.TheVariants as actor
use Rattle.threaded.specs.Machines.{is_free, WaitsAsOpen, has_none_open, Stands}

-- ## What an event does to the open operation

-- there is no outcome, and an operation is open as it was; or it ended with one
abbrev pub Goes : SessionState → SessionState → Type 0
Goes a b = ((b.untaken ≡ None) × (is_idle b.current ≡ is_idle a.current)) ⊎ (IsSome b.untaken × (is_idle b.current ≡ true))

heard_goes : (top : TopologyValue) (me n : ℕ) (a : SessionState) (from : ℕ) (b : Body) → a.untaken ≡ None → Goes a (heard top me n a from b).state
heard_goes top me n a from b none =
    heard_kinds top me n a from b (λ st. Goes a st.state)
    (record {
      still = inl (none, refl);
      goes_on = λ o sends busy open_still. inl (none, open_still ∙ sym busy);
      over = λ floor dependencies o busy. inr (refl, refl);
    })

-- what is done on a clock, where there is one
pub on_clock_is : {X : Type 0} (P : X → Type 0) (o : Option ℕ) (f : ℕ → X) (s : X) → ((n : ℕ) → P (f n)) → on_clock o f ≡ Ok s → P s
on_clock_is P None f s each q = absurd (cc)
on_clock_is P (Some n) f s each q = let is : f n ≡ s = cc in subst P is (each n)

handle_goes : (top : TopologyValue) (me : ℕ) (a : SessionState) (e : Envelope) (s : SessionStep) → a.untaken ≡ None → session_handle top me a e ≡ Ok s → Goes a s.state
handle_goes top me a e s none q =
    on_clock_is (λ (z : SessionStep). Goes a z.state) (ticked a.clock e.time) (λ n. heard top me n a e.from e.body) s (λ n. heard_goes top me n a e.from e.body none) q

-- an accepted operation is open; or it ended at once, with an outcome
abbrev pub Begins : SessionState → Type 0
Begins b = ((b.untaken ≡ None) × (is_idle b.current ≡ false)) ⊎ (IsSome b.untaken × (is_idle b.current ≡ true))

begun_begins : (top : TopologyValue) (me n : ℕ) (a : SessionState) (o : Op) → Begins (begun top me n a o).state
begun_begins top me n a (op.Batch batch) = inl (refl, refl)
begun_begins top me n a (op.Read read) = inl (refl, refl)
begun_begins top me n a (op.Move dc) = by a.dependencies
  where
    by : (ws : List WriterValue) → Begins (move_if ws top me n a dc).state
    by [] = inr (refl, refl)
    by (w ∷ ws) = inl (refl, refl)

submit_begins : (top : TopologyValue) (me : ℕ) (a : SessionState) (o : Op) (s : SessionStep) → session_submit top me a o ≡ Ok s → Begins s.state
submit_begins top me a o s q = by (submit_fault top a o) q
  where
    by : (f : Option Fault) → submit_if f top me a o ≡ Ok s → Begins s.state
    by (Some fault) h = absurd (cc)
    by None h = on_clock_is (λ (z : SessionStep). Begins z.state) (ticked a.clock a.clock) (λ n. begun top me n a o) s (λ n. begun_begins top me n a o) h

-- ## What the machine does then

-- what a session's step made of it, and then the taking of its outcome, by which it waits no more
pub record TookOutcome (l m : SessionKept) (w v : Bool) (ended : Option (ℕ × Outcome)) : Type 0 where
  pub kept : m ≡ record l { untaken = None }
  pub ends : ended ≡ l.untaken
  pub stays : l.untaken ≡ None → v ≡ w
  pub over : IsSome l.untaken → v ≡ false

pub unfinished : (o : Option (ℕ × Outcome)) → finished_of o ≡ None → o ≡ None
unfinished None q = refl
unfinished (Some p) q = absurd (cc)

finished_some : (o : Option (ℕ × Outcome)) → IsSome (finished_of o) → IsSome o
finished_some None some = some
finished_some (Some p) some = refl

module _ (k l m : SessionKept) (w v : Bool) (ended : Option (ℕ × Outcome)) (took : TookOutcome l m w v ended) where
  open_stays : is_idle (open_of m.current) ≡ is_idle (open_of l.current)
  open_stays = ap (λ (z : SessionKept). is_idle (open_of z.current)) took.kept

  none_kept : m.untaken ≡ None
  none_kept = ap (λ (z : SessionKept). z.untaken) took.kept

  waits_on : (w ≡ not (is_idle (open_of k.current))) → Goes (state_of k) (state_of l) → WaitsAsOpen (actor.Session m v ended)
  waits_on tied (inl same) =
      (took.stays (unfinished l.untaken same.0) ∙ tied ∙ ap not (sym same.1) ∙ ap not (sym open_stays), none_kept)
  waits_on tied (inr over) = (took.over (finished_some l.untaken over.0) ∙ ap not (sym over.1) ∙ ap not (sym open_stays), none_kept)

  waits_more : w ≡ true → Begins (state_of l) → WaitsAsOpen (actor.Session m v ended)
  waits_more tied (inl opens) = (took.stays (unfinished l.untaken opens.0) ∙ tied ∙ ap not (sym opens.1) ∙ ap not (sym open_stays), none_kept)
  waits_more tied (inr over) = (took.over (finished_some l.untaken over.0) ∙ ap not (sym over.1) ∙ ap not (sym open_stays), none_kept)

-- it heard an envelope
pub waits_heard : (e : Envelope) (top : TopologyValue) (node : ℕ) (k l m : SessionKept) (w v : Bool) (ended : Option (ℕ × Outcome)) → TookOutcome l m w v ended
    → (a : SessionState) (s : SessionStep) → WaitsAsOpen (actor.Session k w None) → session_handle top node a e ≡ Ok s → a ≡ state_of k → s.state ≡ state_of l
    → WaitsAsOpen (actor.Session m v ended)
waits_heard e top node k l m w v ended took a s tied q is now =
    let none : a.untaken ≡ None = ap (λ (z : SessionState). z.untaken) is ∙ ap finished_of tied.1 in
    let goes : Goes a s.state = handle_goes top node a e s none q in
    waits_on k l m w v ended took tied.0 (subst (λ (z : SessionState). Goes (state_of k) z) now (subst (λ (z : SessionState). Goes z s.state) is goes))

-- it accepted an operation
pub waits_submitted : (o : Op) (top : TopologyValue) (node : ℕ) (l m : SessionKept) (v : Bool) (ended : Option (ℕ × Outcome)) → TookOutcome l m true v ended
    → (a : SessionState) (s : SessionStep) → session_submit top node a o ≡ Ok s → s.state ≡ state_of l → WaitsAsOpen (actor.Session m v ended)
waits_submitted o top node l m v ended took a s q now =
    waits_more l l m true v ended took refl (subst (λ (z : SessionState). Begins z) now (submit_begins top node a o s q))

-- ## When it is free

not_not : (b : Bool) → not (not b) ≡ b
not_not true = refl
not_not false = refl

-- a machine that waits as its session does is free where no operation is open
pub free_is : (top : TopologyValue) (node : ℕ) (m : Actor) (a : ActorState) → WaitsAsOpen m → Stands top node m a → is_free m ≡ has_none_open a
free_is top node (actor.Shard k) (OfShard a) tied stands = refl
free_is top node (actor.Shard k) (OfSession a) tied stands = absurd stands
free_is top node (actor.Session k w ended) (OfShard a) tied stands = absurd stands
free_is top node (actor.Session k w ended) (OfSession a) tied stands =
    ap not tied.0 ∙ not_not (is_idle (open_of k.current)) ∙ sym (ap (λ (z : SessionState). is_idle z.current) stands.1.state)
