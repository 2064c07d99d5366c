use Rattle.std.proofs.lemmas.Option.{slice_get_within}
use Rattle.threaded.proofs.Counting.{whole_by_seat, nothing_sent, the_seat_there}
use Rattle.threaded.proofs.matching.is_all.Goals as goal

pub bounds-seats-place : goal.bounds-seats-place
bounds-seats-place c = slice_get_within c.args.seats.now c.in-Some.place c.in-Some.ensures.some.seat c.in-Some.ensures.some.at

pub returns-in-Some : goal.returns-in-Some
returns-in-Some c =
    whole_by_seat c.args.seats.now c.args.from c.args.to c.args.count c.index-seats-place.result c.sends_no_more.result
    (the_seat_there c.args.seats.now c.args.from c.in-Some.place c.index-seats-place.result c.in-Some.ensures.some c.index-seats-place.is) c.sends_no_more.ensures

pub returns-in-None : goal.returns-in-None
returns-in-None c = nothing_sent c.args.seats.now c.args.from c.args.to c.args.count c.in-None.ensures.none
