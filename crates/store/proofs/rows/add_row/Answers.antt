use Rattle.std.proofs.Common.{rules, ◌≡◌, ◌≤◌, ◌<◌, ◌∙◌, refl, subst, true, Some, None, arith}
use Rattle.std.specs.Prelude.{◌&&◌}
use Rattle.column_family.specs.declared.batch.Row.{Row}
use Rattle.column_family.specs.Location.{is_same_row}
use Rattle.column_family.specs.Places.{row_cmp}
use Rattle.store.specs.Stored.{Place, no_row, chain_of, chain_at, is_of_place}
use Rattle.store.proofs.lists.Maps.{each_row, not_found}
use Rattle.store.proofs.rows.add_row.Goals as goal

pub returns-clause-versions : goal.returns-clause-versions
returns-clause-versions c =
    let f = not_found row_cmp no_row c.args.rows.now c.args.change.now.row (search rules) in
    let same : c.in_ok-clone.field-0 ≡ c.args.change.now.row = search rules in
    let empty : (p : Place) → (chain_of c.new-held.result p).versions ≡ (chain_of no_row p).versions = λ p. elim p as (λ q. (chain_of c.new-held.result q).versions ≡ (chain_of no_row q).versions) [ None ↦ search rules | Some n ↦ grind (arith, c.new-held.ensures) ] in
    each_row (λ b x y. (p : Place) → (chain_of y p).versions ≡ (chain_of x p).versions) c.args.rows.now c.insert.new.self c.in_ok-clone.field-0 c.reserve.new.self c.in_ok-insert.ensures.updates (rw (same, f) (λ p. c.reserve.ensures.versions p ∙ empty p)) (λ x p. refl)

pub returns-clause-room : goal.returns-clause-room
returns-clause-room c =
    let f = not_found row_cmp no_row c.args.rows.now c.args.change.now.row (search rules) in
    let same : c.in_ok-clone.field-0 ≡ c.args.change.now.row = search rules in
    each_row (λ b x y. (p : Place) → (chain_of x p).room ≤ (chain_of y p).room) c.args.rows.now c.insert.new.self c.in_ok-clone.field-0 c.reserve.new.self c.in_ok-insert.ensures.updates (rw (same, f) (λ p. elim p as (λ q. (chain_of no_row q).room ≤ (chain_of c.reserve.new.self q).room) [ None ↦ omega arith | Some n ↦ omega arith ])) (λ x p. omega arith)

pub returns-clause-ranges : goal.returns-clause-ranges
returns-clause-ranges c =
    let f = not_found row_cmp no_row c.args.rows.now c.args.change.now.row (search rules) in
    let same : c.in_ok-clone.field-0 ≡ c.args.change.now.row = search rules in
    each_row (λ b x y. y.ranges ≡ x.ranges) c.args.rows.now c.insert.new.self c.in_ok-clone.field-0 c.reserve.new.self c.in_ok-insert.ensures.updates (rw (same, f) (c.reserve.ensures.ranges ∙ c.new-held.ensures.ranges)) (λ x. refl)

pub returns-clause-ok : goal.returns-clause-ok
returns-clause-ok c =
    let m = c.args.change.now.mutation in
    let same : c.in_ok-clone.field-0 ≡ c.args.change.now.row = search rules in
    let here : (p : Place) → (true && is_of_place p m) ≡ true → 0 < (chain_of c.reserve.new.self p).room = search rules in
    subst (λ (k : Row). (r : Row) (p : Place) → (is_same_row r k && is_of_place p m) ≡ true → 0 < (chain_at c.insert.new.self.entries r p).room) same
    (each_row (λ b x y. (p : Place) → (b && is_of_place p m) ≡ true → 0 < (chain_of y p).room) c.args.rows.now c.insert.new.self c.in_ok-clone.field-0 c.reserve.new.self c.in_ok-insert.ensures.updates here (λ x p at. absurd (cc)))
