use Rattle.std.proofs.Common.{rules, ◌≡◌, ◌≤◌, ◌<◌, ◌+◌, refl, subst, arith}
use Rattle.std.specs.Prelude.{if◌then◌else◌}
use Rattle.column_family.specs.Places.{row_cmp}
use Rattle.versions.specs.Ranges.{put_range}
use Rattle.store.specs.Stored.{Place, Chains, no_row, chain_of}
use Rattle.store.proofs.lists.Maps.{each_row, found, not_found}
use Rattle.store.proofs.applied.Written.{range_of, no_room_there}
use Rattle.store.proofs.rows.put_range.Goals as goal

pub put_range-requires : goal.put_range-requires
put_range-requires c =
    let f = found row_cmp no_row c.args.rows.now c.args.row.now c.in-Some.held.now (search rules) in
    subst (λ (row : Chains). 0 < row.ranges.room) f c.requires

pub returns-in-Some-clause-places : goal.returns-in-Some-clause-places
returns-in-Some-clause-places c =
    let h = c.get_mut.follows.holds c.put_range.new.self in
    let f = found row_cmp no_row c.args.rows.now c.args.row.now c.in-Some.held.now (search rules) in
    each_row (λ b x y. (p : Place) → chain_of y p ≡ chain_of x p) c.args.rows.now (c.get_mut.follows.lender c.put_range.new.self) c.args.row.now c.put_range.new.self (h.3 (search rules)) (rw f c.put_range.ensures.places) (λ x p. refl)

pub returns-in-Some-clause-put : goal.returns-in-Some-clause-put
returns-in-Some-clause-put c =
    let h = c.get_mut.follows.holds c.put_range.new.self in
    let f = found row_cmp no_row c.args.rows.now c.args.row.now c.in-Some.held.now (search rules) in
    each_row (λ b x y. y.ranges.ranges ≡ (if b then put_range x.ranges.ranges (range_of c.args.origin.now c.args.start c.args.finish) else x.ranges.ranges))
    c.args.rows.now (c.get_mut.follows.lender c.put_range.new.self) c.args.row.now c.put_range.new.self (h.3 (search rules)) (rw f c.put_range.ensures.put) (λ x. refl)

pub returns-in-Some-clause-room : goal.returns-in-Some-clause-room
returns-in-Some-clause-room c =
    let h = c.get_mut.follows.holds c.put_range.new.self in
    let f = found row_cmp no_row c.args.rows.now c.args.row.now c.in-Some.held.now (search rules) in
    each_row (λ b x y. x.ranges.room ≤ y.ranges.room + (if b then 1 else 0)) c.args.rows.now (c.get_mut.follows.lender c.put_range.new.self) c.args.row.now c.put_range.new.self (h.3 (search rules)) (rw f c.put_range.ensures.room) (λ x. omega arith)

pub returns-in_default-clause-put : goal.returns-in_default-clause-put
returns-in_default-clause-put c =
    let none = not_found row_cmp no_row c.args.rows.now c.args.row.now (search rules) in
    absurd (no_room_there (subst (λ (row : Chains). 0 < row.ranges.room) none c.requires))
