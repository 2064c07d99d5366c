use Rattle.std.proofs.Common.{refl}
use Rattle.actors.specs.Seats.{through}
use Rattle.actors.proofs.Seating.{kept_did, has_done, accepted_so}
use Rattle.actors.proofs.Refusing.{is_refusal}
use Rattle.actors.proofs.seat.Seat.own.Goals as goal

pub invariant_of-self : goal.invariant_of-self
invariant_of-self g c =
    let s = c.self.inside in
    let r = c.self.invariant.recorded in
    kept_did g.M.Machine.came_from g.M.Machine.untaken c.happen.result s.recorded.machine c.happen.new.self.machine _ _ c.args.event c.self.invariant c.requires
    (c.happen.ensures.recorded s.topology s.node (through s.outgoing) r) (c.happen.ensures.refused s.topology s.node (through s.outgoing) r)
    c.happen.ensures.journal c.happen.ensures.same refl refl refl c.self.invariant.own refl

pub returns-clause-ok : goal.returns-clause-ok
returns-clause-ok g c =
    rw (← c.self.view_is) (has_done c.happen.result _ _ c.args.event c.happen.ensures.room c.happen.ensures.journal c.happen.ensures.outcomes refl refl refl c.happen.ensures.limit (refl, refl))

pub returns-clause-refused : goal.returns-clause-refused
returns-clause-refused g c =
    let s = c.self.inside in
    is_refusal g.M.Machine.refuses c.args.self.now c.args.event c.happen.result (rw (← c.self.view_is) c.happen.ensures.full)
    (rw (← c.self.view_is) (c.happen.ensures.fault s.topology s.node (through s.outgoing) c.self.invariant.recorded))

pub returns-clause-number : goal.returns-clause-number
returns-clause-number g c =
    let s = c.self.inside in
    rw (← c.self.view_is) (c.happen.ensures.number s.topology s.node (through s.outgoing) c.self.invariant.recorded)

pub returns-clause-accepted : goal.returns-clause-accepted
returns-clause-accepted g c =
    let s = c.self.inside in
    let r = c.self.invariant.recorded in
    accepted_so g.M.Machine.came_from g.M.Machine.untaken c.happen.result s.topology s.node (through s.outgoing) c.happen.new.self.machine _ _ _ _ _ _
    (c.happen.ensures.recorded s.topology s.node (through s.outgoing) r) (c.happen.ensures.refused s.topology s.node (through s.outgoing) r)
