use Rattle.std.proofs.Common.{rules, ◌≡◌, ◌≤◌, ◌<◌, refl, subst, true, arith}
use Rattle.std.specs.Prelude.{◌&&◌}
use Rattle.column_family.specs.Places.{row_cmp}
use Rattle.store.specs.Stored.{Place, Chains, no_row, chain_of, is_of_place}
use Rattle.store.proofs.lists.Maps.{each_row, found, not_found}
use Rattle.store.proofs.newest.Places.{own_at, no_room_missing, on_ok}
use Rattle.store.proofs.rows.reserve_change.Goals as goal

pub returns-in-None-clause-succeeds : goal.returns-in-None-clause-succeeds
returns-in-None-clause-succeeds c = λ room.
    let f = not_found row_cmp no_row c.args.rows.now c.args.change.now.row (search rules) in
    absurd (no_room_missing c.args.rows.now.entries c.args.change.now (search rules) f room)

pub returns-in-Some-clause-versions : goal.returns-in-Some-clause-versions
returns-in-Some-clause-versions c =
    let h = c.get_mut.follows.holds c.reserve.new.self in
    let f = found row_cmp no_row c.args.rows.now c.args.change.now.row c.in-Some.held.now (search rules) in
    each_row (λ b x y. (p : Place) → (chain_of y p).versions ≡ (chain_of x p).versions) c.args.rows.now (c.get_mut.follows.lender c.reserve.new.self) c.args.change.now.row c.reserve.new.self (h.3 (search rules)) (rw f c.reserve.ensures.versions) (λ x p. refl)

pub returns-in-Some-clause-room : goal.returns-in-Some-clause-room
returns-in-Some-clause-room c =
    let h = c.get_mut.follows.holds c.reserve.new.self in
    let f = found row_cmp no_row c.args.rows.now c.args.change.now.row c.in-Some.held.now (search rules) in
    each_row (λ b x y. (p : Place) → (chain_of x p).room ≤ (chain_of y p).room) c.args.rows.now (c.get_mut.follows.lender c.reserve.new.self) c.args.change.now.row c.reserve.new.self (h.3 (search rules)) (rw f c.reserve.ensures.room) (λ x p. omega arith)

pub returns-in-Some-clause-ranges : goal.returns-in-Some-clause-ranges
returns-in-Some-clause-ranges c =
    let h = c.get_mut.follows.holds c.reserve.new.self in
    let f = found row_cmp no_row c.args.rows.now c.args.change.now.row c.in-Some.held.now (search rules) in
    each_row (λ b x y. y.ranges ≡ x.ranges) c.args.rows.now (c.get_mut.follows.lender c.reserve.new.self) c.args.change.now.row c.reserve.new.self (h.3 (search rules)) (rw f c.reserve.ensures.ranges) (λ x. refl)

pub returns-in-Some-clause-ok : goal.returns-in-Some-clause-ok
returns-in-Some-clause-ok c =
    let h = c.get_mut.follows.holds c.reserve.new.self in
    on_ok c.reserve.result (λ here. each_row (λ b x y. (p : Place) → (b && is_of_place p c.args.change.now.mutation) ≡ true → 0 < (chain_of y p).room) c.args.rows.now (c.get_mut.follows.lender c.reserve.new.self) c.args.change.now.row c.reserve.new.self (h.3 (search rules)) here (λ x p at. absurd (cc))) c.reserve.ensures.ok

pub returns-in-Some-clause-succeeds : goal.returns-in-Some-clause-succeeds
returns-in-Some-clause-succeeds c = λ room.
    let f = found row_cmp no_row c.args.rows.now c.args.change.now.row c.in-Some.held.now (search rules) in
    c.reserve.ensures.succeeds (λ p at. subst (λ (row : Chains). 0 < (chain_of row p).room) f (room c.args.change.now.row p (own_at c.args.change.now p at)))
