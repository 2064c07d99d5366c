use Rattle.std.proofs.Common.{arith, ◌≡◌, ◌∙◌, ◌+◌, ◌<◌, ◌^◌, ap, sym, length, None, Some, rules}
use Rattle.std.specs.Option.{option_copied}
use Rattle.threaded.proofs.Looked.{seat_at_place}
use Rattle.threaded.proofs.Matched.{next_on, counted_on, not_on, small_count}
use Rattle.threaded.proofs.matching.counts.Goals as goal

pub overflow_add-index_mut : goal.overflow_add-index_mut
overflow_add-index_mut c =
    let is : c.from-from.result ≡ c.args.envelope.now.from = c.from-from.ensures ∙ c.get.ensures in
    let within : c.from-from.result < length c.args.received.now.items = search rules in
    let small : c.index_mut.result.now + 1 < 2 ^ 64 =
    small_count c.args.seats.now c.args.places.now c.args.to c.args.received.now.items c.args.envelope.now c.index-seats-places.result c.from-from.result c.index_mut.result.now
    c.requires.places c.requires.sender is c.index-seats-places.is within c.index_mut.ensures.value c.requires.fits in
    search rules

pub returns-in-Some-clause-next : goal.returns-in-Some-clause-next
returns-in-Some-clause-next c = λ yes.
    let is : c.from-from.result ≡ c.args.envelope.now.from = c.from-from.ensures ∙ c.get.ensures in
    let within : c.from-from.result < length c.args.received.now.items = search rules in
    next_on c.args.seats.now c.args.places.now c.args.to c.args.received.now.items c.args.envelope.now c.index-seats-places.result c.from-from.result c.index.result.now
    c.requires.places c.requires.sender is c.index-seats-places.is within c.index.ensures c.in-Some.sent.now c.in-Some.ensures
    (c.same_envelope.ensures.0 c.if-same_envelope.true)

pub returns-in-Some-clause-counted : goal.returns-in-Some-clause-counted
returns-in-Some-clause-counted c = λ yes.
    let is : c.from-from.result ≡ c.args.envelope.now.from = c.from-from.ensures ∙ c.get.ensures in
    let within : c.from-from.result < length c.args.received.now.items = search rules in
    counted_on c.args.seats.now c.args.places.now c.args.to c.args.received.now.items c.args.envelope.now c.index-seats-places.result c.from-from.result c.index_mut.result.now
    c.requires.places c.requires.sender is c.index-seats-places.is within c.index_mut.ensures.value

pub returns-in_default-clause-other : goal.returns-in_default-clause-other
returns-in_default-clause-other c = λ no.
    let is : c.from-from.result ≡ c.args.envelope.now.from = c.from-from.ensures ∙ c.get.ensures in
    let within : c.from-from.result < length c.args.received.now.items = search rules in
    not_on c.args.seats.now c.args.places.now c.args.to c.args.received.now.items c.args.envelope.now c.index-seats-places.result c.from-from.result c.index.result.now
    c.requires.places c.requires.sender is c.index-seats-places.is within c.index.ensures (Some c.in-Some.sent.now) c.in-Some.ensures
    (λ sent is_it same.
    let it : c.in-Some.sent.now ≡ sent = cc in
    let yes = c.same_envelope.ensures.1 (it ∙ same) in
    let off = c.if-same_envelope.false in
    absurd cc)

pub returns-in_default-2-clause-other : goal.returns-in_default-2-clause-other
returns-in_default-2-clause-other c = λ no.
    let is : c.from-from.result ≡ c.args.envelope.now.from = c.from-from.ensures ∙ c.get.ensures in
    let within : c.from-from.result < length c.args.received.now.items = search rules in
    not_on c.args.seats.now c.args.places.now c.args.to c.args.received.now.items c.args.envelope.now c.index-seats-places.result c.from-from.result c.index.result.now
    c.requires.places c.requires.sender is c.index-seats-places.is within c.index.ensures None (sym (ap option_copied c.in_default.is) ∙ c.sent_to.ensures)
    (λ sent is_it same. absurd cc)

pub offset_bounds-seats-places : goal.offset_bounds-seats-places
offset_bounds-seats-places c = grind (arith, seat_at_place)

pub bounds-seats-places : goal.bounds-seats-places
bounds-seats-places c = grind (arith, seat_at_place)
