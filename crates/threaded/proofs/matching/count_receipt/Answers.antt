use Rattle.std.proofs.Common.{◌∙◌, length, Some, inl, inr, ap, arith}
use Rattle.std.proofs.lemmas.Option.{get_or_from_slice_get}
use Rattle.messages.specs.declared.event.ActorEvent.TheVariants.{Handle}
use Rattle.messages.specs.Actors.{envelope_of}
use Rattle.world.proofs.lists.Replacing.{item_at}
use Rattle.threaded.proofs.Counting.{count_within, own_counted, counted_then}
use Rattle.threaded.proofs.matching.count_receipt.Goals as goal

pub count_from-requires-clause-within : goal.count_from-requires-clause-within
count_from-requires-clause-within c =
    c.requires.senders c.in-Handle.envelope (
      c.args.place,
      c.requires.place,
      get_or_from_slice_get c.args.journal.now c.args.place (Handle c.in-Handle.envelope) (Handle c.in-Handle.envelope)
          (item_at c.args.journal.now c.args.place c.index-journal-place.result c.requires.place c.index-journal-place.is ∙ ap Some c.in-Handle.is),
    )

pub count_from-requires-clause-fits : goal.count_from-requires-clause-fits
count_from-requires-clause-fits c = λ n at.
    let le = count_within (length c.args.received.now.items) c.args.journal.now c.args.place c.args.received.now.items c.requires.counted c.in-Handle.envelope.from n at in
    omega (arith, le, c.requires.place, c.requires.fits)

pub returns : goal.returns
returns c =
    counted_then (length c.args.received.now.items) c.args.journal.now c.args.place c.args.received.now.items c.requires.counted c.in-Handle.envelope
    (item_at c.args.journal.now c.args.place c.index-journal-place.result c.requires.place c.index-journal-place.is ∙ ap Some c.in-Handle.is)
    (c.requires.senders c.in-Handle.envelope (
      c.args.place,
      c.requires.place,
      get_or_from_slice_get c.args.journal.now c.args.place (Handle c.in-Handle.envelope) (Handle c.in-Handle.envelope)
          (item_at c.args.journal.now c.args.place c.index-journal-place.result c.requires.place c.index-journal-place.is ∙ ap Some c.in-Handle.is),
    ))
    c.count_from.new.received.items c.count_from.ensures

pub returns-in-Submit : goal.returns-in-Submit
returns-in-Submit c =
    own_counted (length c.args.received.now.items) c.args.journal.now c.args.place c.args.received.now.items c.requires.counted c.index-journal-place.result
    (item_at c.args.journal.now c.args.place c.index-journal-place.result c.requires.place c.index-journal-place.is)
    (elim c.in-Submit.is [ inl submits ↦ ap envelope_of submits.1 | inr collects ↦ ap envelope_of collects.1 ])

pub returns-in-Submit-2 : goal.returns-in-Submit-2
returns-in-Submit-2 c =
    own_counted (length c.args.received.now.items) c.args.journal.now c.args.place c.args.received.now.items c.requires.counted c.index-journal-place.result
    (item_at c.args.journal.now c.args.place c.index-journal-place.result c.requires.place c.index-journal-place.is)
    (elim c.in-Submit.is [ inl submits ↦ ap envelope_of submits.1 | inr collects ↦ ap envelope_of collects.1 ])
