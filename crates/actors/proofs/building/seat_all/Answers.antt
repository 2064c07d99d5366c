use Rattle.std.proofs.Common.{◌≡◌, ◌<◌, ℕ, subst, get_or, length, refl, rules, arith}
use Rattle.std.proofs.lemmas.Grind.{common_steps}
use Rattle.messages.specs.Topology.{node_count}
use Rattle.actors.specs.Building.{AreNewSeats}
use Rattle.actors.specs.Opening.{new_seat}
use Rattle.actors.proofs.Built.{first_of, others_of, its_rings, none_built, one_more_seat, are_new}
use Rattle.actors.proofs.building.seat_all.Goals as goal

pub new-requires-in-loop-node-clause-rings : goal.new-requires-in-loop-node-clause-rings
new-requires-in-loop-node-clause-rings g c =
    let own = c.remove.result in
    let lt : c.loop-node.node < length c.args.ends.items = search rules in
    let below : c.loop-node.node < c.node_count-count.result = search rules in
    let first : own ≡ get_or c.loop-node.ends.items 0 own = search rules in
    let at = first_of c.args.ends.items c.loop-node.ends.items c.loop-node.node own c.loop-node.invariant.rest lt first in
    rw c.new.ensures (its_rings c.args.topology.now c.args.ring c.loop-node.node c.args.ends.items own c.requires (rw (← c.node_count-count.ensures.value) below) at)

pub loop-node-preserved : goal.loop-node-preserved
loop-node-preserved g c =
    let top = c.args.topology.now in
    let own = c.remove.result in
    let inv = c.loop-node.invariant in
    let node = c.loop-node.node in
    let lt : c.loop-node.node < length c.args.ends.items = search rules in
    let below : c.loop-node.node < c.node_count-count.result = search rules in
    let first : own ≡ get_or c.loop-node.ends.items 0 own = search rules in
    let at = first_of c.args.ends.items c.loop-node.ends.items node own inv.rest lt first in
    let ok : c.in-Ok.seat ≡ new_seat top node c.args.journal own.outgoing.items own.incoming.items = rw (← c.new.ensures) c.in-Ok.ensures.ok in
    record {
      rest = others_of c.args.ends.items c.loop-node.ends.items _ node own inv.rest lt c.remove.ensures.by_index.2;
      room = search rules;
      seats = one_more_seat top c.args.ring c.args.journal node c.args.ends.items own c.loop-node.seats.items _ c.in-Ok.seat inv.seats
          (rw (← c.node_count-count.ensures.value) below) at ok c.push_reserved.ensures.items;
    }

pub loop-node-init : goal.loop-node-init
loop-node-init g c = record { rest = refl; room = search rules; seats = none_built c.args.topology.now c.args.ring c.args.journal c.args.ends.items _ c.requires (search rules) }

pub loop-node-smaller : goal.loop-node-smaller
loop-node-smaller g c = grind (arith, common_steps)

pub remove-requires : goal.remove-requires
remove-requires c = grind (arith, common_steps)

pub returns-clause-ok : goal.returns-clause-ok
returns-clause-ok g c =
    let all : c.loop-node.node ≡ node_count c.args.topology.now = grind (arith, common_steps) in
    subst (λ (n : ℕ). AreNewSeats c.args.topology.now c.args.ring c.args.journal n c.loop-node.seats.items) all
    (are_new c.args.topology.now c.args.ring c.args.journal c.loop-node.node c.args.ends.items c.loop-node.seats.items c.loop-node.invariant.seats)
