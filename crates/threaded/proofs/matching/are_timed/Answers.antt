use Rattle.std.proofs.Common.{arith, ◌<◌, ◌&&◌, ap, length, rules}
use Rattle.threaded.proofs.Looked.{seat_at_place, seat_is, one_more_kept, one_more_timed}
use Rattle.threaded.proofs.matching.are_timed.Goals as goal

pub loop-node-preserved : goal.loop-node-preserved
loop-node-preserved c =
    let seats = c.args.seats.now in
    let places = c.args.places.now in
    let node = c.loop-node.node in
    let seat = c.index-seats-places.result in
    let lt : node < length places = search rules in
    let found = seat_is seats places (length places) node c.requires lt seat c.index-seats-places.is in (
      one_more_timed seats node seat c.loop-node.timed (c.loop-node.timed && c.is_timed-timed.result) found (ap (λ b. c.loop-node.timed && b) c.is_timed-timed.ensures)
          c.loop-node.invariant.0,
      one_more_kept seats node seat found c.journal-kept.ensures.keeps c.loop-node.invariant.1,
    )

pub offset_bounds-seats-places : goal.offset_bounds-seats-places
offset_bounds-seats-places c = grind (arith, seat_at_place)

pub bounds-seats-places : goal.bounds-seats-places
bounds-seats-places c = grind (arith, seat_at_place)
