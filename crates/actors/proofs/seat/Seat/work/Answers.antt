use Rattle.std.proofs.Common.{◌≡◌, ◌∙◌, ◌∷◌, ◌++◌, ℕ, List, [], true, refl, ap, sym, subst, rules, arith}
use Rattle.std.specs.Prelude.{All}
use Rattle.std.proofs.lemmas.Grind.{common_steps}
use Rattle.logical_time.specs.declared.fault.Fault.{Fault}
use Rattle.messages.specs.declared.event.ActorEvent.{ActorEvent}
use Rattle.actors.specs.Journals.{IsOwn}
use Rattle.actors.specs.Turns.{IsOfRequest}
use Rattle.actors.proofs.Refusing.{refusal_of, kept_back, taken_off}
use Rattle.actors.specs.Seats.{SeatValue, through}
use Rattle.actors.proofs.Seating.{kept_own, kept_same, own_first, own_rest}
use Rattle.actors.proofs.Working.{worked}
use Rattle.actors.proofs.seat.Seat.work.Goals as goal

pub invariant_of-self : goal.invariant_of-self
invariant_of-self g c =
    let s = c.self.inside in
    let inv = c.self.invariant in
    let is : s.backlog.items ≡ c.in-Some.event ∷ c.pop_front.new.self.items = search rules in
    kept_own g.M.Machine.came_from g.M.Machine.untaken s.recorded.machine c.happen.new.self.machine _ _ c.in-Some.event inv (own_first s.backlog.items _ c.in-Some.event is inv.own)
    (c.in-Ok.ensures.recorded s.topology s.node (through s.outgoing) inv.recorded) c.in-Ok.ensures.journal refl refl refl (own_rest s.backlog.items _ c.in-Some.event is inv.own) refl

pub invariant_of-self-in-Ok-reserve : goal.invariant_of-self-in-Ok-reserve
invariant_of-self-in-Ok-reserve g c =
    let s = c.self.inside in
    let inv = c.self.invariant in
    let is : s.backlog.items ≡ c.in-Some.event ∷ c.pop_front.new.self.items = search rules in
    kept_same g.M.Machine.came_from g.M.Machine.untaken s.recorded.machine c.happen.new.self.machine _ _ inv
    (c.in-Err-2.ensures.refused s.topology s.node (through s.outgoing) inv.recorded) c.in-Err-2.ensures.same.0 refl refl refl (own_rest s.backlog.items _ c.in-Some.event is inv.own) refl

pub returns-in-Ok-clause-ok : goal.returns-in-Ok-clause-ok
returns-in-Ok-clause-ok g c =
    let s = c.self.inside in
    let inv = c.self.invariant in
    let is : s.backlog.items ≡ c.in-Some.event ∷ c.pop_front.new.self.items = search rules in
    let number = c.in-Ok.ensures.number s.topology s.node (through s.outgoing) inv.recorded in
    rw (← c.self.view_is) (worked g.M.Machine.refuses c.in-Some.event c.in-Ok.number c.done.result _ _ c.done.ensures number (own_first s.backlog.items _ c.in-Some.event is inv.own)
    (record { room = c.in-Ok.ensures.room; journal = c.in-Ok.ensures.journal; outcomes = c.in-Ok.ensures.outcomes; refusals = refl; topology = refl; node = refl; limit = c.happen.ensures.limit; rings = (refl, refl) }) is (subst (λ (x : SeatValue). x.free ≡ true) (sym c.self.view_is) c.requires.free))

pub invariant_of-self-then-not-is_of_request : goal.invariant_of-self-then-not-is_of_request
invariant_of-self-then-not-is_of_request g c =
    let s = c.self.inside in
    let inv = c.self.invariant in
    let back : s.backlog.items ≡ c.push_front_reserved.new.self.items = search rules in
    kept_same g.M.Machine.came_from g.M.Machine.untaken s.recorded.machine c.happen.new.self.machine _ _ inv
    (c.in-Err.ensures.refused s.topology s.node (through s.outgoing) inv.recorded) c.in-Err.ensures.same.0 refl refl refl
    (subst (λ (es : List ActorEvent). All IsOwn es) back inv.own) refl

pub invariant_of-self-in-Err-reserve : goal.invariant_of-self-in-Err-reserve
invariant_of-self-in-Err-reserve g c =
    let s = c.self.inside in
    let inv = c.self.invariant in
    let back : s.backlog.items ≡ c.push_front_reserved-in-Err-reserve.new.self.items = search rules in
    kept_same g.M.Machine.came_from g.M.Machine.untaken s.recorded.machine c.happen.new.self.machine _ _ inv
    (c.in-Err-2.ensures.refused s.topology s.node (through s.outgoing) inv.recorded) c.in-Err-2.ensures.same.0 refl refl refl
    (subst (λ (es : List ActorEvent). All IsOwn es) back inv.own) refl

pub returns-in-Err-clause-refused : goal.returns-in-Err-clause-refused
returns-in-Err-clause-refused g c =
    let s = c.self.inside in
    let is : s.backlog.items ≡ c.in-Some.event ∷ c.pop_front.new.self.items = search rules in
    let other : IsOfRequest c.in-Err.fault → ⊥ = search rules in
    kept_back g.M.Machine.refuses c.args.self.now c.in-Some.event c.pop_front.new.self.items c.in-Err.fault (rw (← c.self.view_is) is) other
    (refusal_of g.M.Machine.refuses c.args.self.now c.in-Some.event c.in-Err.fault (rw (← c.self.view_is) c.in-Err.ensures.full)
    (rw (← c.self.view_is) (c.in-Err.ensures.fault s.topology s.node (through s.outgoing) c.self.invariant.recorded)))

pub returns-in-Ok-reserve-clause-ok : goal.returns-in-Ok-reserve-clause-ok
returns-in-Ok-reserve-clause-ok g c =
    let s = c.self.inside in
    let inv = c.self.invariant in
    let is : s.backlog.items ≡ c.in-Some.event ∷ c.pop_front.new.self.items = search rules in
    let request : IsOfRequest c.in-Err.fault = search rules in
    let kept : c.reserve.new.self.items ≡ s.refusals.items = search rules in
    let refused = refusal_of g.M.Machine.refuses c.args.self.now c.in-Some.event c.in-Err.fault (rw (← c.self.view_is) c.in-Err.ensures.full)
    (rw (← c.self.view_is) (c.in-Err.ensures.fault s.topology s.node (through s.outgoing) c.self.invariant.recorded)) in
    record {
      journal = rw (← c.self.view_is) c.in-Err.ensures.same.0;
      outcomes = rw (← c.self.view_is) c.in-Err.ensures.same.1;
      off = taken_off g.M.Machine.refuses c.in-Some.event c.in-Err.fault c.args.self.now _ (rw (← c.self.view_is) is) request refused;
      refusals =
          rw (← c.self.view_is)
          (c.push_reserved.ensures.items ∙ ap (λ (l : List (ℕ × Fault)). l ++ (c.happen.new.self.accepted, c.in-Err.fault) ∷ []) kept
          ∙ ap (λ (n : ℕ). s.refusals.items ++ (n, c.in-Err.fault) ∷ []) (c.in-Err.ensures.same.3 ∙ inv.recorded.past.accepted));
      request = request;
      topology = rw (← c.self.view_is) refl;
      node = rw (← c.self.view_is) refl;
      limit = rw (← c.self.view_is) c.happen.ensures.limit;
      rings = rw (← c.self.view_is) (refl, refl);
    }

pub returns-in-Err-clause-err : goal.returns-in-Err-clause-err
returns-in-Err-clause-err g c = grind (arith, common_steps)

pub returns-in-Err-clause-full : goal.returns-in-Err-clause-full
returns-in-Err-clause-full g c = grind (arith, common_steps)

pub returns-in-Err-clause-ok : goal.returns-in-Err-clause-ok
returns-in-Err-clause-ok g c = grind (arith, common_steps)

pub returns-in-Err-reserve-clause-err : goal.returns-in-Err-reserve-clause-err
returns-in-Err-reserve-clause-err g c = grind (arith, common_steps)

pub returns-in-Err-reserve-clause-full : goal.returns-in-Err-reserve-clause-full
returns-in-Err-reserve-clause-full g c = grind (arith, common_steps)

pub returns-in-Err-reserve-clause-ok : goal.returns-in-Err-reserve-clause-ok
returns-in-Err-reserve-clause-ok g c = grind (arith, common_steps)

pub returns-in-Err-reserve-clause-refused : goal.returns-in-Err-reserve-clause-refused
returns-in-Err-reserve-clause-refused g c = grind (arith, common_steps)

pub returns-in-Ok-clause-err : goal.returns-in-Ok-clause-err
returns-in-Ok-clause-err g c = grind (arith, common_steps)

pub returns-in-Ok-clause-full : goal.returns-in-Ok-clause-full
returns-in-Ok-clause-full g c = grind (arith, common_steps)

pub returns-in-Ok-clause-refused : goal.returns-in-Ok-clause-refused
returns-in-Ok-clause-refused g c = grind (arith, common_steps)

pub returns-in-Ok-reserve-clause-err : goal.returns-in-Ok-reserve-clause-err
returns-in-Ok-reserve-clause-err g c = grind (arith, common_steps)

pub returns-in-Ok-reserve-clause-full : goal.returns-in-Ok-reserve-clause-full
returns-in-Ok-reserve-clause-full g c = grind (arith, common_steps)

pub returns-in-Ok-reserve-clause-refused : goal.returns-in-Ok-reserve-clause-refused
returns-in-Ok-reserve-clause-refused g c = grind (arith, common_steps)

pub push_front_reserved-requires-in-Err-reserve : goal.push_front_reserved-requires-in-Err-reserve
push_front_reserved-requires-in-Err-reserve c = grind (arith, common_steps)
