use Rattle.std.proofs.Common.{arith, ◌≡◌, ◌<◌, ◌≤◌, get_or, length, sym, subst, rules}
use Rattle.std.proofs.lemmas.Grind.{common_steps}
use Rattle.std.proofs.lemmas.Result.{err_from_is_err_and}
use Rattle.actors.specs.Seats.{SeatValue}
use Rattle.actors.specs.Turns.{HasSame, IsTurn, HasLooked}
use Rattle.actors.proofs.Rounds.{same_later, turn_later, seat_later, others_wait, one_turn, round_done, taken_more, stopped_here, refused_at}
use Rattle.actors.proofs.draining.one_round.Goals as goal

pub returns-in_err-turn-clause-later : goal.returns-in_err-turn-clause-later
returns-in_err-turn-clause-later g c =
    let now = c.loop-place.seats in
    let place = c.loop-place.place in
    let d = c.index-seats-place.result in
    let lt : place < length now = search rules in
    let is : d ≡ get_or now place d = search rules in
    let same = subst (λ (s : SeatValue). HasSame s c.turn.new.self) (sym is) c.in_err-turn.ensures.err in
    seat_later c.args.seats.now now place d c.turn.new.self c.loop-place.invariant.later lt is (same_later d c.turn.new.self same)

pub returns-in_err-turn-clause-refused : goal.returns-in_err-turn-clause-refused
returns-in_err-turn-clause-refused g c =
    let now = c.loop-place.seats in
    let place = c.loop-place.place in
    let d = c.index-seats-place.result in
    let n = c.turn.new.self in
    let lt : place < length now = search rules in
    let fault = c.in_err-turn.field-0.0 in
    let p = err_from_is_err_and c.from_residual.result c.from_residual.ensures.1 in
    rw (p.1, p.2) (refused_at g.M.Machine.refuses now place n fault lt c.in_err-turn.ensures.refused)

pub returns-in_err-turn-clause-stopped : goal.returns-in_err-turn-clause-stopped
returns-in_err-turn-clause-stopped g c =
    let now = c.loop-place.seats in
    let place = c.loop-place.place in
    let d = c.index-seats-place.result in
    let n = c.turn.new.self in
    let lt : place < length now = search rules in
    let is : d ≡ get_or now place d = search rules in
    let fault = c.in_err-turn.field-0.0 in
    let same = subst (λ (s : SeatValue). HasSame s n) (sym is) c.in_err-turn.ensures.err in
    let p = err_from_is_err_and c.from_residual.result c.from_residual.ensures.1 in
    rw (p.1, p.2) (stopped_here g.M.Machine.refuses c.args.seats.now now place d n lt is c.loop-place.invariant.taken fault same c.in_err-turn.ensures.refused)

pub loop-place-preserved : goal.loop-place-preserved
loop-place-preserved g c =
    let start = c.args.seats.now in
    let now = c.loop-place.seats in
    let place = c.loop-place.place in
    let inv = c.loop-place.invariant in
    let d = c.index-seats-place.result in
    let n = c.turn.new.self in
    let turn = c.in_ok-turn.turn in
    let lt : place < length now = search rules in
    let is : d ≡ get_or now place d = search rules in
    let took = subst (λ (s : SeatValue). IsTurn g.M.Machine.refuses turn s n) (sym is) c.in_ok-turn.ensures.ok in
    let looked = subst (λ (s : SeatValue). HasLooked turn s n) (sym is) c.in_ok-turn.ensures.looked in
    let here : place ≤ place = search rules in
    record {
      later = seat_later start now place d n inv.later lt is (turn_later g.M.Machine.refuses turn d n took);
      taken = taken_more g.M.Machine.refuses start now place d n lt is inv.taken turn took looked;
      waiting = others_wait start now place n inv.waiting;
      so_far = rw c.with_turn-round.ensures (one_turn start now place d n lt is g.M.Machine.refuses c.loop-place.round turn (inv.waiting place here) took inv.so_far);
    }

pub returns-clause-round : goal.returns-clause-round
returns-clause-round g c =
    let inv = c.loop-place.invariant in
    let past : length c.loop-place.seats ≤ c.loop-place.place = search rules in
    round_done c.loop-place.round c.args.seats.now c.loop-place.seats c.loop-place.place inv.later past inv.so_far

pub loop-place-init : goal.loop-place-init
loop-place-init c = grind (arith, common_steps)

pub returns-in_err-turn-clause-taken : goal.returns-in_err-turn-clause-taken
returns-in_err-turn-clause-taken g c = let p = err_from_is_err_and c.from_residual.result c.from_residual.ensures.1 in rw (p.1) tt

pub returns-in_err-turn-clause-round : goal.returns-in_err-turn-clause-round
returns-in_err-turn-clause-round g c = let p = err_from_is_err_and c.from_residual.result c.from_residual.ensures.1 in rw (p.1) tt
