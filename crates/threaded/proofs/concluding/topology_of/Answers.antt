use Rattle.std.proofs.Common.{arith, ◌≡◌, ◌<◌, true, length, subst, rules}
use Rattle.std.proofs.lemmas.Grind.{elements}
use Rattle.std.proofs.lemmas.Result.{err_from_is_err_and}
use Rattle.messages.specs.Topology.{node_count}
use Rattle.threaded.specs.OneRun.{journal_of, AreOfTopology, DoLinksMatch}
use Rattle.threaded.specs.Matching.{ArePlaces}
use Rattle.threaded.proofs.Looked.{are_seats, no_seat, no_match}
use Rattle.threaded.proofs.concluding.topology_of.Goals as goal

pub returns-in_err-places-clause-refused : goal.returns-in_err-places-clause-refused
returns-in_err-places-clause-refused c =
    let seat = c.index-seats-0.result in
    let lt : 0 < length c.args.seats.now = search rules in
    let counted = c.count_of-count.ensures.value in
    let own = c.topology-topology.ensures in
    let is : c.count_of-count.result ≡ node_count seat.topology = cc in
    let p = err_from_is_err_and c.from_residual.result c.from_residual.ensures.1 in
    rw (p.1, p.2) (no_seat c.args.seats.now seat lt c.index-seats-0.is c.count_of-count.result is c.in_err-places.field-0.0 c.in_err-places.ensures.refused)

pub do_fit-requires-clause-seats : goal.do_fit-requires-clause-seats
do_fit-requires-clause-seats c =
    let seats = c.args.seats.now in
    let top = c.topology-topology.result.now in
    let places = c.in_ok-places.places.items in
    let count : length seats ≡ node_count top = search rules in
    let all : c.are_of.result ≡ true = search rules in
    let of : AreOfTopology top seats = c.are_of.ensures.0 all in
    let stand = subst (λ n. ArePlaces n seats places) c.count_of-count.ensures.value c.in_ok-places.ensures.ok in
    are_seats top seats places c.count_of-count.ensures.limits count of stand

pub returns-then-not-fit-clause-refused : goal.returns-then-not-fit-clause-refused
returns-then-not-fit-clause-refused c =
    let lt : 0 < length c.args.seats.now = search rules in
    no_match c.args.seats.now c.index-seats-0.result lt c.index-seats-0.is
    (subst (λ t. DoLinksMatch t (journal_of c.args.seats.now) → ⊥) c.topology-topology.ensures (c.in_ok-fit.ensures.apart c.if-not-fit.true))

pub returns-then-seats-from-clause-refused : goal.returns-then-seats-from-clause-refused
returns-then-seats-from-clause-refused c = grind (arith, elements)
