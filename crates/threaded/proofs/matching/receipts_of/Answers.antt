use Rattle.std.proofs.Common.{◌+◌, take, subst, sym}
use Rattle.threaded.specs.Matching.{AreFromActors}
use Rattle.threaded.specs.Quiet.{HaveCounted}
use Rattle.threaded.proofs.Counting.{none_counted, all_counted}
use Rattle.threaded.proofs.matching.receipts_of.Goals as goal

pub loop-place-init : goal.loop-place-init
loop-place-init c = none_counted c.args.count c.in_ok-received.received.items c.in_ok-received.ensures.ok.0 c.in_ok-received.ensures.ok.1

pub loop-place-preserved : goal.loop-place-preserved
loop-place-preserved c =
    subst (λ n. HaveCounted n (take (c.loop-place.place + 1) c.args.journal.now) c.count_receipt.new.received.items) c.loop-place.invariant.len c.count_receipt.ensures

pub count_receipt-requires-clause-senders : goal.count_receipt-requires-clause-senders
count_receipt-requires-clause-senders c = subst (λ n. AreFromActors n c.args.journal.now) (sym c.loop-place.invariant.len) c.requires

pub count_receipt-requires-clause-counted : goal.count_receipt-requires-clause-counted
count_receipt-requires-clause-counted c =
    subst (λ n. HaveCounted n (take c.loop-place.place c.args.journal.now) c.loop-place.received.items) (sym c.loop-place.invariant.len) c.loop-place.invariant

pub returns-clause-ok : goal.returns-clause-ok
returns-clause-ok c = all_counted c.args.count c.args.journal.now c.loop-place.place c.loop-place.received.items c.loop-place-test.false c.loop-place.invariant
