use Rattle.std.proofs.Common.{None}
use Rattle.threaded.proofs.AskedFor.{seat_decides, has_seat}
use Rattle.threaded.proofs.history.decided.Goals as goal

pub returns-in-Some : goal.returns-in-Some
returns-in-Some c =
    λ top states asked.
    seat_decides top states c.args.home c.args.seats.now c.args.batch.now c.args.txn c.node_of-node.result c.coordinator.result asked c.node_of-node.ensures c.coordinator.ensures
    c.in-Some.place c.index-seats-place.result c.machine.result.now c.decision.result c.in-Some.ensures.some c.index-seats-place.is c.machine.ensures c.decision.ensures

pub returns-in-None : goal.returns-in-None
returns-in-None c =
    λ top states asked.
    has_seat top states c.args.home c.args.seats.now c.args.batch.now c.args.txn c.node_of-node.result c.coordinator.result asked c.node_of-node.ensures c.coordinator.ensures None
    c.in-None.ensures.none
