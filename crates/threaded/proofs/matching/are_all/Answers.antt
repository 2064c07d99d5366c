use Rattle.std.proofs.Common.{◌≡◌, ◌<◌, length, rules}
use Rattle.threaded.proofs.Counting.{one_more_whole, not_all_whole, all_whole}
use Rattle.threaded.proofs.matching.are_all.Goals as goal

pub loop-from-preserved : goal.loop-from-preserved
loop-from-preserved c =
    let from = c.loop-from.from in
    let is : c.from-at.result ≡ from = search rules in
    let other : c.new.result ≡ from = search rules in
    let lt : from < length c.args.received.now = search rules in
    one_more_whole c.args.seats.now from c.args.to c.from-at.result c.new.result c.args.received.now is other lt (c.is_all-all.ensures.0 c.if-not-all.false) c.loop-from.invariant

pub returns-then-not-all : goal.returns-then-not-all
returns-then-not-all c =
    let from = c.loop-from.from in
    let is : c.from-at.result ≡ from = search rules in
    let other : c.new.result ≡ from = search rules in
    let below : from < c.args.count = search rules in
    let lt : from < length c.args.received.now = search rules in
    not_all_whole c.args.seats.now c.args.count from c.args.to c.from-at.result c.new.result c.args.received.now c.is_all-all.result is other below lt c.is_all-all.ensures
    c.if-not-all.true

pub returns : goal.returns
returns c = all_whole c.args.seats.now c.args.count c.loop-from.from c.args.to c.args.received.now c.loop-from-test.false c.loop-from.invariant
