use Rattle.std.proofs.Common.{◌≡◌, ◌<◌, length, get_or, refl, sym, subst, rules}
use Rattle.actors.specs.Seats.{SeatValue}
use Rattle.actors.specs.Draining.{IsLater}
use Rattle.actors.proofs.Rounds.{seat_later, refused_at}
use Rattle.threaded.specs.Machines.{Refuses}
use Rattle.running.proofs.finishing.do_refuse.Goals as goal

pub returns-then-does_refuse-clause-later : goal.returns-then-does_refuse-clause-later
returns-then-does_refuse-clause-later c =
    let now = c.loop-place.seats in
    let place = c.loop-place.place in
    let d = c.index-seats-place.result in
    let n = c.does_refuse.new.seat in
    let lt : place < length now = search rules in
    let is : d ≡ get_or now place d = search rules in
    let later = subst (λ (s : SeatValue). IsLater s n) (sym is) c.if-does_refuse.ensures.later in
    seat_later c.args.seats.now now place d n c.loop-place.invariant lt is later

pub returns-then-does_refuse-clause-refused : goal.returns-then-does_refuse-clause-refused
returns-then-does_refuse-clause-refused c = λ on.
    let lt : c.loop-place.place < length c.loop-place.seats = search rules in
    refused_at Refuses c.loop-place.seats c.loop-place.place c.does_refuse.new.seat c.args.fault lt (c.if-does_refuse.ensures.refused refl)

pub loop-place-preserved : goal.loop-place-preserved
loop-place-preserved c =
    let now = c.loop-place.seats in
    let place = c.loop-place.place in
    let d = c.index-seats-place.result in
    let n = c.does_refuse.new.seat in
    let lt : place < length now = search rules in
    let is : d ≡ get_or now place d = search rules in
    let later = subst (λ (s : SeatValue). IsLater s n) (sym is) c.if-does_refuse.ensures.later in
    seat_later c.args.seats.now now place d n c.loop-place.invariant lt is later
