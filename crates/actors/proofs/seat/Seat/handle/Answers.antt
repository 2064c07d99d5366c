use Rattle.std.proofs.Common.{◌≡◌, Some, refl, rules}
use Rattle.actors.specs.Seats.{through}
use Rattle.messages.specs.declared.event.ActorEvent.TheVariants.{Handle}
use Rattle.actors.proofs.Seating.{kept_handled, kept_same}
use Rattle.actors.proofs.Refusing.{refusal_of, held_refused}
use Rattle.actors.proofs.seat.Seat.handle.Goals as goal

pub invariant_of-self : goal.invariant_of-self
invariant_of-self g c =
    let s = c.self.inside in
    kept_handled g.M.Machine.came_from g.M.Machine.untaken s.recorded.machine c.happen.new.self.machine _ _ c.in-Some.envelope c.self.invariant (search rules)
    (c.in-Ok.ensures.recorded s.topology s.node (through s.outgoing) c.self.invariant.recorded) c.in-Ok.ensures.journal refl (search rules) refl refl refl

pub invariant_of-self-in-Err : goal.invariant_of-self-in-Err
invariant_of-self-in-Err g c =
    let s = c.self.inside in
    kept_same g.M.Machine.came_from g.M.Machine.untaken s.recorded.machine c.happen.new.self.machine _ _ c.self.invariant
    (c.in-Err.ensures.refused s.topology s.node (through s.outgoing) c.self.invariant.recorded) c.in-Err.ensures.same.0 refl (search rules) refl c.self.invariant.own refl

pub returns-in-Ok-clause-ok : goal.returns-in-Ok-clause-ok
returns-in-Ok-clause-ok g c =
    rw (← c.self.view_is) (
      c.in-Some.envelope,
      record {
        room = c.in-Ok.ensures.room;
        journal = c.in-Ok.ensures.journal;
        outcomes = c.in-Ok.ensures.outcomes;
        refusals = refl;
        topology = refl;
        node = refl;
        limit = c.happen.ensures.limit;
        rings = (refl, refl);
      },
      refl,
    )

pub returns-in-Err-clause-refused : goal.returns-in-Err-clause-refused
returns-in-Err-clause-refused g c =
    let s = c.self.inside in
    let is : s.held ≡ Some c.in-Some.envelope = search rules in
    held_refused g.M.Machine.refuses c.args.self.now c.in-Some.envelope c.in-Err.fault (rw (← c.self.view_is) is)
    (refusal_of g.M.Machine.refuses c.args.self.now (Handle c.in-Some.envelope) c.in-Err.fault (rw (← c.self.view_is) c.in-Err.ensures.full)
    (rw (← c.self.view_is) (c.in-Err.ensures.fault s.topology s.node (through s.outgoing) c.self.invariant.recorded)))
