-- What the calls of a world say, by what it keeps.
use Rattle.std.proofs.Common.{◌≡◌, ◌∙◌, ℕ, ◌+◌, ◌<◌, List, [], ◌∷◌, ◌++◌, length, Option, Some, None, inl, inr, sym, ap, subst, arith, ltb-true}
use Rattle.std.specs.Prelude.{nat_le, nat_lt}
use Rattle.std.proofs.lemmas.Bool.{and_parts}
use Rattle.std.proofs.lemmas.List.{length-append}
use Rattle.messages.specs.declared.envelope.Envelope.{Envelope}
use Rattle.messages.specs.Topology.{TopologyValue, shard_count, node_count}
use Rattle.world.specs.declared.run_event.RunEvent.{RunEvent}
use Rattle.world.specs.Run.{Run, opening, step, run}
use Rattle.world.specs.World.{WorldValue, run_of}
use Rattle.world.specs.Quiet.{IsQuiet}
use Rattle.world.specs.Settled.{Settled}
use Rattle.world.specs.Lookups.{first_unhandled}
use Rattle.world.proofs.lists.Members.{contains_get}
use Rattle.world.proofs.envelopes.Addressed.{messages_are_for_actors}
use Rattle.world.proofs.promised.Laws.{quiet_means_done}
use Rattle.world.proofs.quiet.Unhandled.{finds_unhandled}
use Rattle.world.proofs.steps.Refusals.{allowed_is_added}
use Rattle.world.proofs.worked.Replayed.{continued_push}
use Rattle.present.specs.declared.actors.Actors.{Actors}
use Rattle.present.specs.declared.ended.Ended.{Ended}
use Rattle.present.specs.Past.{next_number}
use Rattle.present.specs.Waiting.{waiting_of}
use Rattle.present.specs.Present.{AreLeft, IsPresentOf, HasTaken, Holds, IsEnd}
use Rattle.present.proofs.Left.{next_is, next_stands, quiet_now, first_left}

-- after an event that was taken what is kept holds of the events with it
pub then_holds : (a b : Actors) (told now : List RunEvent) (x : RunEvent) → Holds a.topology told a → HasTaken a.topology told x b → b.topology ≡ a.topology → now ≡ told ++ x ∷ []
    → Holds b.topology now b
then_holds a b told now x h taken topology is =
    let pushed = continued_push a.topology (opening a.topology) told x in
    subst (λ t. Holds t now b) (sym topology)
    (subst (λ l. Holds a.topology l b) (sym is)
    (record {
      events = ap (λ (w : Run). w.events) pushed ∙ allowed_is_added a.topology (run a.topology told) x taken.allowed ∙ ap (λ l. l ++ x ∷ []) h.events;
      present = subst (λ w. IsPresentOf a.topology w b) (sym pushed) taken.present;
    }))

-- the events so far and then this one are those of the run after it
pub then_run : (top : TopologyValue) (told now : List RunEvent) (x : RunEvent) → now ≡ told ++ x ∷ [] → run top now ≡ step top (run top told) x
then_run top told now x is = ap (run top) is ∙ continued_push top (opening top) told x

-- where what waits isn't all, one waits, for an actor that there is
pub one_waits : (a : Actors) (told : List RunEvent) → Holds a.topology told a → next_number told < length (run a.topology told).sent → 0 < length (waiting_of a.waiting)
one_waits a told h lt =
    let l = h.present.left in
    let n = next_is (run a.topology told) told (waiting_of a.waiting) h.events l in
    let long = ap (λ (xs : List Envelope). length xs) l.sent ∙ length-append l.past (waiting_of a.waiting) in
    omega arith

pub is_addressed : (a : Actors) (told : List RunEvent) (e : Envelope) (rest : List Envelope) → Holds a.topology told a → waiting_of a.waiting ≡ e ∷ rest
    → e.to < length a.shards.items + length a.sessions.items
is_addressed a told e rest h is =
    let top = a.topology in
    let l = subst (AreLeft (run a.topology told)) is h.present.left in
    let at = next_stands (run a.topology told) e rest l in
    elim (messages_are_for_actors top told h.present.sound e (contains_get (run a.topology told).sent (length l.past) e at)) [
      | inl near ↦ (let lt = ltb-true e.to (shard_count top) near in let n = h.present.shards.len in omega arith)
      | inr far ↦ (
          let p = and_parts (nat_le (shard_count top) e.to) (nat_lt e.to (node_count top)) far in
          let lt = ltb-true e.to (node_count top) p.1 in
          let n = h.present.shards.len in
          let m = h.present.count in
          omega arith
          )
    ]

-- ## Whether all is handled

module _ (v : WorldValue) (a : Actors) (told : List RunEvent) (h : Holds a.topology told a) (is : v ≡ record { top = a.topology; events = told }) where
  pub is_quiet_now : waiting_of a.waiting ≡ [] → IsQuiet (run_of v)
  is_quiet_now none = subst (λ (z : WorldValue). IsQuiet (run_of z)) (sym is) (quiet_now (run a.topology told) (subst (AreLeft (run a.topology told)) none h.present.left))

  pub is_done_now : waiting_of a.waiting ≡ [] → Settled v.top (run_of v)
  is_done_now none =
      subst (λ (z : WorldValue). Settled z.top (run_of z)) (sym is)
      (quiet_means_done a.topology told h.present.sound (quiet_now (run a.topology told) (subst (AreLeft (run a.topology told)) none h.present.left)))

  pub next_waits : 0 < length (waiting_of a.waiting) → next_number v.events < length (run_of v).sent
  next_waits lt =
      let l = h.present.left in
      let n = next_is (run a.topology told) told (waiting_of a.waiting) h.events l in
      let long = ap (λ (xs : List Envelope). length xs) l.sent ∙ length-append l.past (waiting_of a.waiting) in
      subst (λ (z : WorldValue). next_number z.events < length (run_of z).sent) (sym is) (omega arith)

  pub next_is_first : 0 < length (waiting_of a.waiting) → first_unhandled (run_of v) ≡ Some (next_number v.events)
  next_is_first lt = subst (λ (z : WorldValue). first_unhandled (run_of z) ≡ Some (next_number z.events)) (sym is) (go (waiting_of a.waiting) lt h.present.left)
    where
      go : (left : List Envelope) → 0 < length left → AreLeft (run a.topology told) left → first_unhandled (run a.topology told) ≡ Some (next_number told)
      go [] lt l = absurd (omega arith)
      go (e ∷ rest) lt l = first_left (run a.topology told) e rest l ∙ ap Some (sym (next_is (run a.topology told) told (e ∷ rest) h.events l))

  pub not_quiet_yet : 0 < length (waiting_of a.waiting) → IsQuiet (run_of v) → ⊥
  not_quiet_yet lt quiet =
      let none = (finds_unhandled (run_of v)).none.1 quiet in
      let some = next_is_first lt in
      none_some (sym none ∙ some)
    where
      none_some : {k : ℕ} → None ≡ Some k → ⊥
      none_some q = absurd (cc)

-- what ended is told of the world as it was and as it is
pub end_told : (v : WorldValue) (a b : Actors) (told now : List RunEvent) (x : RunEvent) (o : Option Ended) → record { top = a.topology; events = told } ≡ v → b.topology ≡ a.topology
    → now ≡ told ++ x ∷ [] → IsEnd (run a.topology told) (step a.topology (run a.topology told) x) o → IsEnd (run_of v) (run_of (record { top = b.topology; events = now })) o
end_told v a b told now x o is topology happened k =
    subst (λ (z : WorldValue). IsEnd (run_of z) (run_of (record { top = b.topology; events = now })) o) is
    (subst (λ w. IsEnd (run a.topology told) w o) (sym (ap (λ t. run t now) topology ∙ then_run a.topology told now x happened)) k)
