use Rattle.std.proofs.Common.{refl}
use Rattle.actors.proofs.Seating.{kept_taken, taken_came}
use Rattle.actors.proofs.seat.Seat.take_in.Goals as goal

pub invariant_of-self : goal.invariant_of-self
invariant_of-self g c =
    let inv = c.self.invariant in
    let s = c.self.inside in
    kept_taken g.M.Machine.came_from g.M.Machine.untaken s.recorded.machine _ _ inv inv.recorded c.refill.ensures.sources (c.refill.ensures.received s.recorded.journal.items inv.sources inv.received) refl refl
    refl refl (taken_came s.held _ s.incoming.items _ s.next _ c.refill.ensures.sources c.refill.ensures.found c.refill.ensures.held inv.held_back)
