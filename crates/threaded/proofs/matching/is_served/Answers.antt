use Rattle.std.proofs.Common.{◌≡◌, ◌∙◌, true, Some, None, refl, sym, subst, rules}
use Rattle.std.specs.Prelude.{◌↔◌}
use Rattle.std.proofs.lemmas.Option.{slice_get_within}
use Rattle.messages.specs.Topology.{node_count}
use Rattle.threaded.specs.Matching.{AreFromActors}
use Rattle.threaded.specs.Quiet.{HaveCounted, AreWhollyReceived}
use Rattle.threaded.proofs.Looked.{are_from_actors}
use Rattle.threaded.proofs.Counting.{the_seat_there, served_if_whole, kept_there}
use Rattle.threaded.proofs.matching.is_served.Goals as goal

pub unreachable-requires : goal.unreachable-requires
unreachable-requires c =
    let s = c.requires.seats.each c.args.to c.requires.node in
    let no : Some s.0 ≡ None = sym s.1 ∙ c.in_default.ensures.none in
    absurd (cc)

pub bounds-seats-place : goal.bounds-seats-place
bounds-seats-place c = slice_get_within c.args.seats.now c.in-Some.place c.in-Some.ensures.some.seat c.in-Some.ensures.some.at

pub offset_bounds-seats-place : goal.offset_bounds-seats-place
offset_bounds-seats-place c =
    let there = slice_get_within c.args.seats.now c.in-Some.place c.in-Some.ensures.some.seat c.in-Some.ensures.some.at in
    search (rules, there)

pub receipts_of-requires : goal.receipts_of-requires
receipts_of-requires c =
    let top = c.args.topology.now in
    let seats = c.args.seats.now in
    let there = slice_get_within seats c.in-Some.place c.in-Some.ensures.some.seat c.in-Some.ensures.some.at in
    let count : c.from.result ≡ node_count top = search rules in
    subst (λ l. AreFromActors c.from.result l) (sym c.journal-journal.ensures.value)
    (are_from_actors top seats c.in-Some.place c.from.result c.index-seats-place.result there c.index-seats-place.is c.requires.seats.topology c.journal-journal.ensures.keeps count)

pub returns-clause-ok : goal.returns-clause-ok
returns-clause-ok c =
    let top = c.args.topology.now in
    let seats = c.args.seats.now in
    let to = c.args.to in
    let all = c.are_all.result in
    let found = the_seat_there seats to c.in-Some.place c.index-seats-place.result c.in-Some.ensures.some c.index-seats-place.is in
    let count : c.from.result ≡ node_count top = search rules in
    let number : c.node_count-count.result ≡ node_count top = search rules in
    let counted = subst (λ k. HaveCounted k c.journal-journal.result.now c.in_ok-received.received.items) count c.in_ok-received.ensures.ok in
    let told =
    subst (λ l. (all ≡ true) ↔ AreWhollyReceived seats (node_count top) to l) c.as_slice.ensures.value
    (subst (λ k. (all ≡ true) ↔ AreWhollyReceived seats k to c.as_slice.result.now) number c.are_all.ensures) in
    served_if_whole (node_count top) seats to to c.index-seats-place.result c.journal-journal.result.now c.in_ok-received.received.items all refl found c.journal-journal.ensures.value
    counted told

pub returns-clause-kept : goal.returns-clause-kept
returns-clause-kept c =
    let seats = c.args.seats.now in
    let found = the_seat_there seats c.args.to c.in-Some.place c.index-seats-place.result c.in-Some.ensures.some c.index-seats-place.is in
    kept_there seats c.args.to c.index-seats-place.result found c.journal-journal.ensures.keeps
