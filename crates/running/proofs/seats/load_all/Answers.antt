use Rattle.std.proofs.Common.{◌≡◌, ◌∙◌, ◌<◌, length, get_or, sym, ap, rules}
use Rattle.running.specs.Loaded.{with_asked}
use Rattle.running.proofs.Loading.{one_more_asked, all_asked}
use Rattle.running.proofs.seats.load_all.Goals as goal

pub loop-place-preserved : goal.loop-place-preserved
loop-place-preserved c =
    let now = c.loop-place.seats in
    let place = c.loop-place.place in
    let d = c.index-seats-place.result in
    let lt : place < length now = search rules in
    let is : d ≡ get_or now place d = search rules in
    one_more_asked c.args.events.now c.args.seats.now now place d c.load.new.seat lt is
    (c.in_ok-load.ensures.ok ∙ ap (with_asked c.args.events.now) (sym is)) c.loop-place.invariant

pub returns-clause-ok : goal.returns-clause-ok
returns-clause-ok c = all_asked c.args.events.now c.args.seats.now c.loop-place.seats c.loop-place.place (search rules) c.loop-place.invariant
