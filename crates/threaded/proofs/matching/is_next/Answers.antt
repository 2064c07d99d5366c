use Rattle.std.proofs.Common.{◌∙◌, length, Some, inl, inr, ap, arith}
use Rattle.std.proofs.lemmas.Option.{get_or_from_slice_get}
use Rattle.messages.specs.declared.event.ActorEvent.TheVariants.{Handle}
use Rattle.messages.specs.Actors.{envelope_of}
use Rattle.world.proofs.lists.Replacing.{item_at}
use Rattle.threaded.proofs.Matched.{within_place, next_received, not_next, own_event}
use Rattle.threaded.proofs.matching.is_next.Goals as goal

pub counts-requires-clause-sender : goal.counts-requires-clause-sender
counts-requires-clause-sender c =
    c.requires.senders c.in-Handle.envelope (
      c.args.place,
      c.requires.place,
      get_or_from_slice_get c.args.journal.now c.args.place (Handle c.in-Handle.envelope) (Handle c.in-Handle.envelope)
          (item_at c.args.journal.now c.args.place c.index-journal-place.result c.requires.place c.index-journal-place.is ∙ ap Some c.in-Handle.is),
    )

pub counts-requires-clause-fits : goal.counts-requires-clause-fits
counts-requires-clause-fits c = λ n at.
    let le = within_place (length c.args.places.now) c.args.seats.now c.args.to c.args.journal.now c.args.place c.args.received.now.items c.requires.received
    c.in-Handle.envelope.from n at in
    omega (arith, le, c.requires.place, c.requires.fits)

pub returns-in-Handle-clause-next : goal.returns-in-Handle-clause-next
returns-in-Handle-clause-next c = λ on.
    next_received (length c.args.places.now) c.args.seats.now c.args.to c.args.journal.now c.args.place c.args.received.now.items c.requires.received c.in-Handle.envelope
    (item_at c.args.journal.now c.args.place c.index-journal-place.result c.requires.place c.index-journal-place.is ∙ ap Some c.in-Handle.is)
    (c.counts.ensures.next on) c.counts.new.received.items (c.counts.ensures.counted on)

pub returns-in-Handle-clause-other : goal.returns-in-Handle-clause-other
returns-in-Handle-clause-other c = λ off.
    not_next (length c.args.places.now) c.args.seats.now c.args.to c.args.journal.now c.args.place c.args.received.now.items c.requires.received c.in-Handle.envelope
    (item_at c.args.journal.now c.args.place c.index-journal-place.result c.requires.place c.index-journal-place.is ∙ ap Some c.in-Handle.is)
    (c.requires.senders c.in-Handle.envelope (
      c.args.place,
      c.requires.place,
      get_or_from_slice_get c.args.journal.now c.args.place (Handle c.in-Handle.envelope) (Handle c.in-Handle.envelope)
          (item_at c.args.journal.now c.args.place c.index-journal-place.result c.requires.place c.index-journal-place.is ∙ ap Some c.in-Handle.is),
    ))
    (c.counts.ensures.other off)

pub returns-in-Submit-clause-next : goal.returns-in-Submit-clause-next
returns-in-Submit-clause-next c = λ on.
    own_event (length c.args.places.now) c.args.seats.now c.args.to c.args.journal.now c.args.place c.args.received.now.items c.requires.received c.index-journal-place.result
    (item_at c.args.journal.now c.args.place c.index-journal-place.result c.requires.place c.index-journal-place.is) (elim c.in-Submit.is [ inl submits ↦ ap envelope_of submits.1 | inr collects ↦ ap envelope_of collects.1 ])

pub returns-in-Submit-2-clause-next : goal.returns-in-Submit-2-clause-next
returns-in-Submit-2-clause-next c = λ on.
    own_event (length c.args.places.now) c.args.seats.now c.args.to c.args.journal.now c.args.place c.args.received.now.items c.requires.received c.index-journal-place.result
    (item_at c.args.journal.now c.args.place c.index-journal-place.result c.requires.place c.index-journal-place.is) (elim c.in-Submit.is [ inl submits ↦ ap envelope_of submits.1 | inr collects ↦ ap envelope_of collects.1 ])
