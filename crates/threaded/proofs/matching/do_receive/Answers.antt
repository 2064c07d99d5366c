use Rattle.std.proofs.Common.{◌≡◌, ◌<◌, length, slice_index_or, subst, sym, rules}
use Rattle.messages.specs.Topology.{node_count}
use Rattle.threaded.specs.Matching.{AreFromActors}
use Rattle.threaded.proofs.Looked.{seat_there, are_from_actors, one_more_receives, does_not_receive}
use Rattle.threaded.proofs.matching.do_receive.Goals as goal

pub offset_bounds-seats-places : goal.offset_bounds-seats-places
offset_bounds-seats-places c =
    let lt : c.from.result < node_count c.args.topology.now = search rules in
    let there = seat_there c.args.seats.now c.args.places.now (node_count c.args.topology.now) c.from.result c.requires.places lt in
    search (rules, there)

pub bounds-seats-places : goal.bounds-seats-places
bounds-seats-places c =
    let lt : c.from.result < node_count c.args.topology.now = search rules in
    seat_there c.args.seats.now c.args.places.now (node_count c.args.topology.now) c.from.result c.requires.places lt

pub receives-requires-clause-senders : goal.receives-requires-clause-senders
receives-requires-clause-senders c =
    let top = c.args.topology.now in
    let seats = c.args.seats.now in
    let places = c.args.places.now in
    let lt : c.from.result < node_count top = search rules in
    let there = seat_there seats places (node_count top) c.from.result c.requires.places lt in
    subst (λ l. AreFromActors (length places) l) (sym c.journal-journal.ensures.value)
    (are_from_actors top seats (slice_index_or places c.from.result 0) (length places) c.index-seats-places.result there c.index-seats-places.is c.requires.topology
    c.journal-journal.ensures.keeps c.requires.places.len)

pub returns-then-not-does-clause-ok : goal.returns-then-not-does-clause-ok
returns-then-not-does-clause-ok c =
    let top = c.args.topology.now in
    let seats = c.args.seats.now in
    let lt : c.loop-node.node < node_count top = search rules in
    let from : c.from.result ≡ c.loop-node.node = search rules in
    let to : c.new-to.result ≡ c.loop-node.node = search rules in
    does_not_receive (node_count top) seats c.args.places.now c.loop-node.node c.from.result c.new-to.result c.index-seats-places.result c.journal-journal.result.now c.requires.places lt
    from to c.index-seats-places.is c.journal-journal.ensures.value c.in_ok-does.does c.in_ok-does.ensures.ok c.if-not-does.true

pub loop-node-preserved : goal.loop-node-preserved
loop-node-preserved c =
    let top = c.args.topology.now in
    let seats = c.args.seats.now in
    let lt : c.loop-node.node < node_count top = search rules in
    let from : c.from.result ≡ c.loop-node.node = search rules in
    let to : c.new-to.result ≡ c.loop-node.node = search rules in
    one_more_receives (node_count top) seats c.args.places.now c.loop-node.node c.from.result c.new-to.result c.index-seats-places.result c.journal-journal.result.now c.requires.places lt
    from to c.index-seats-places.is c.journal-journal.ensures.value (c.in_ok-does.ensures.ok.0 c.if-not-does.false) c.loop-node.invariant
