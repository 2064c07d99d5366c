use Rattle.std.proofs.Common.{rules, ◌≡◌, ◌≤◌, ◌<◌, ap, refl, subst, true, arith}
use Rattle.column_family.specs.Places.{row_cmp}
use Rattle.versions.specs.Chain.{Held}
use Rattle.store.specs.Stored.{Place, Chains, no_row, chain_of}
use Rattle.store.proofs.lists.Maps.{each_row, found, not_found}
use Rattle.store.proofs.newest.Places.{on_ok}
use Rattle.store.proofs.newest.Passing.{own_row}
use Rattle.store.proofs.room.reserve_in_row.Goals as goal

pub returns-in-Some-clause-places : goal.returns-in-Some-clause-places
returns-in-Some-clause-places c =
    let h = c.get_mut.follows.holds c.reserve_ranges.new.self in
    let f = found row_cmp no_row c.args.rows.now c.args.row.now c.in-Some.held.now (search rules) in
    each_row (λ b x y. (p : Place) → (chain_of y p).versions ≡ (chain_of x p).versions) c.args.rows.now (c.get_mut.follows.lender c.reserve_ranges.new.self) c.args.row.now c.reserve_ranges.new.self (h.3 (search rules))
    (rw f (λ p. ap (λ (k : Held). k.versions) (c.reserve_ranges.ensures.places p))) (λ x p. refl)

pub returns-in-Some-clause-place_room : goal.returns-in-Some-clause-place_room
returns-in-Some-clause-place_room c =
    let h = c.get_mut.follows.holds c.reserve_ranges.new.self in
    let f = found row_cmp no_row c.args.rows.now c.args.row.now c.in-Some.held.now (search rules) in
    each_row (λ b x y. (p : Place) → (chain_of x p).room ≤ (chain_of y p).room) c.args.rows.now (c.get_mut.follows.lender c.reserve_ranges.new.self) c.args.row.now c.reserve_ranges.new.self (h.3 (search rules))
    (rw f (λ p. let same = ap (λ (k : Held). k.room) (c.reserve_ranges.ensures.places p) in omega (arith, same))) (λ x p. omega arith)

pub returns-in-Some-clause-ranges : goal.returns-in-Some-clause-ranges
returns-in-Some-clause-ranges c =
    let h = c.get_mut.follows.holds c.reserve_ranges.new.self in
    let f = found row_cmp no_row c.args.rows.now c.args.row.now c.in-Some.held.now (search rules) in
    each_row (λ b x y. y.ranges.ranges ≡ x.ranges.ranges) c.args.rows.now (c.get_mut.follows.lender c.reserve_ranges.new.self) c.args.row.now c.reserve_ranges.new.self (h.3 (search rules)) (rw f c.reserve_ranges.ensures.ranges) (λ x. refl)

pub returns-in-Some-clause-room : goal.returns-in-Some-clause-room
returns-in-Some-clause-room c =
    let h = c.get_mut.follows.holds c.reserve_ranges.new.self in
    let f = found row_cmp no_row c.args.rows.now c.args.row.now c.in-Some.held.now (search rules) in
    each_row (λ b x y. x.ranges.room ≤ y.ranges.room) c.args.rows.now (c.get_mut.follows.lender c.reserve_ranges.new.self) c.args.row.now c.reserve_ranges.new.self (h.3 (search rules)) (rw f c.reserve_ranges.ensures.room) (λ x. omega arith)

pub returns-in-Some-clause-ok : goal.returns-in-Some-clause-ok
returns-in-Some-clause-ok c =
    let h = c.get_mut.follows.holds c.reserve_ranges.new.self in
    on_ok c.reserve_ranges.result
    (λ here. each_row (λ b x y. b ≡ true → c.args.count ≤ y.ranges.room) c.args.rows.now (c.get_mut.follows.lender c.reserve_ranges.new.self) c.args.row.now c.reserve_ranges.new.self (h.3 (search rules)) (λ e. here) (λ x e. absurd (cc)) c.args.row.now (own_row c.args.row.now))
    c.reserve_ranges.ensures.ok

pub returns-in-Some-clause-succeeds : goal.returns-in-Some-clause-succeeds
returns-in-Some-clause-succeeds c = λ room.
    let f = found row_cmp no_row c.args.rows.now c.args.row.now c.in-Some.held.now (search rules) in
    c.reserve_ranges.ensures.succeeds (subst (λ (row : Chains). c.args.count ≤ row.ranges.room) f room)

pub returns-in-None-clause-succeeds : goal.returns-in-None-clause-succeeds
returns-in-None-clause-succeeds c = λ room.
    let f = not_found row_cmp no_row c.args.rows.now c.args.row.now (search rules) in
    let none = subst (λ (row : Chains). c.args.count ≤ row.ranges.room) f room in
    let some : 0 < c.args.count = search (rules, arith) in
    absurd (omega (arith, some, none))
