use Rattle.std.proofs.Common.{rules, ◌≡◌, ◌≤◌, ◌∙◌, ap, refl, subst, true, Some, None, arith}
use Rattle.column_family.specs.declared.batch.Row.{Row}
use Rattle.column_family.specs.Places.{row_cmp}
use Rattle.versions.specs.Ranges.{HeldRanges}
use Rattle.versions.specs.Chain.{Held}
use Rattle.store.specs.Stored.{Place, no_row, chain_of, ranges_in}
use Rattle.store.proofs.lists.Maps.{each_row, not_found}
use Rattle.store.proofs.newest.Passing.{own_row}
use Rattle.store.proofs.room.add_row.Goals as goal

pub returns-clause-places : goal.returns-clause-places
returns-clause-places c =
    let f = not_found row_cmp no_row c.args.rows.now c.args.row.now (search rules) in
    let same : c.in_ok-clone.field-0 ≡ c.args.row.now = search rules in
    let empty : (p : Place) → (chain_of c.new-held.result p).versions ≡ (chain_of no_row p).versions = λ p. elim p as (λ q. (chain_of c.new-held.result q).versions ≡ (chain_of no_row q).versions) [ None ↦ search rules | Some n ↦ grind (arith, c.new-held.ensures) ] in
    each_row (λ b x y. (p : Place) → (chain_of y p).versions ≡ (chain_of x p).versions) c.args.rows.now c.insert.new.self c.in_ok-clone.field-0 c.reserve_ranges.new.self c.in_ok-insert.ensures.updates (rw (same, f) (λ p. ap (λ (h : Held). h.versions) (c.reserve_ranges.ensures.places p) ∙ empty p)) (λ x p. refl)

pub returns-clause-place_room : goal.returns-clause-place_room
returns-clause-place_room c =
    let f = not_found row_cmp no_row c.args.rows.now c.args.row.now (search rules) in
    let same : c.in_ok-clone.field-0 ≡ c.args.row.now = search rules in
    each_row (λ b x y. (p : Place) → (chain_of x p).room ≤ (chain_of y p).room) c.args.rows.now c.insert.new.self c.in_ok-clone.field-0 c.reserve_ranges.new.self c.in_ok-insert.ensures.updates (rw (same, f) (λ p. elim p as (λ q. (chain_of no_row q).room ≤ (chain_of c.reserve_ranges.new.self q).room) [ None ↦ omega arith | Some n ↦ omega arith ])) (λ x p. omega arith)

pub returns-clause-ranges : goal.returns-clause-ranges
returns-clause-ranges c =
    let f = not_found row_cmp no_row c.args.rows.now c.args.row.now (search rules) in
    let same : c.in_ok-clone.field-0 ≡ c.args.row.now = search rules in
    each_row (λ b x y. y.ranges.ranges ≡ x.ranges.ranges) c.args.rows.now c.insert.new.self c.in_ok-clone.field-0 c.reserve_ranges.new.self c.in_ok-insert.ensures.updates (rw (same, f) (c.reserve_ranges.ensures.ranges ∙ ap (λ (h : HeldRanges). h.ranges) c.new-held.ensures.ranges)) (λ x. refl)

pub returns-clause-room : goal.returns-clause-room
returns-clause-room c =
    let f = not_found row_cmp no_row c.args.rows.now c.args.row.now (search rules) in
    let same : c.in_ok-clone.field-0 ≡ c.args.row.now = search rules in
    each_row (λ b x y. x.ranges.room ≤ y.ranges.room) c.args.rows.now c.insert.new.self c.in_ok-clone.field-0 c.reserve_ranges.new.self c.in_ok-insert.ensures.updates (rw (same, f) (omega arith)) (λ x. omega arith)

pub returns-clause-ok : goal.returns-clause-ok
returns-clause-ok c =
    let same : c.in_ok-clone.field-0 ≡ c.args.row.now = search rules in
    subst (λ (k : Row). c.args.count ≤ (ranges_in c.insert.new.self.entries k).room) same
    (each_row (λ b x y. b ≡ true → c.args.count ≤ y.ranges.room) c.args.rows.now c.insert.new.self c.in_ok-clone.field-0 c.reserve_ranges.new.self c.in_ok-insert.ensures.updates (λ e. search rules) (λ x e. absurd (cc)) c.in_ok-clone.field-0 (own_row c.in_ok-clone.field-0))
