use Rattle.std.proofs.Common.{refl, rules}
use Rattle.actors.proofs.Beginning.{opened, unused}
use Rattle.actors.proofs.seat.Seat.new.Goals as goal

pub invariant_of-result : goal.invariant_of-result
invariant_of-result g c =
    let empty = c.in_ok-recorded.ensures.empty in
    let start = c.in_ok-recorded.ensures.start in
    opened g.M.Machine.came_from g.M.Machine.untaken c.in_ok-recorded.recorded.machine _ c.args.ends c.in_ok-recorded.ensures.recorded (rw c.in_ok-topology.ensures.same c.requires.rings)
    empty.0 empty.1 (search rules) empty.3 start.1 start.2 (search rules) c.in_ok-outgoing.ensures.ok refl refl

pub over-requires : goal.over-requires
over-requires g c = unused c.args.topology.now c.args.node c.args.ends c.requires.rings
