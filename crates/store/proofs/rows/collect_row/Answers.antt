use Rattle.std.proofs.Common.{rules, ◌≡◌, ◌∙◌, ap, refl}
use Rattle.column_family.specs.Places.{row_cmp}
use Rattle.store.specs.Stored.{Place, Chains, no_row, chain_of}
use Rattle.store.proofs.applied.Collected.{row_collected}
use Rattle.store.proofs.applied.Listed.{if_collected, none_collected, ranges_if_collected, no_ranges_collected}
use Rattle.column_family.proofs.RowOrder.{same_row}
use Rattle.store.proofs.lists.Maps.{step_each, found}
use Rattle.store.proofs.rows.collect_row.Goals as goal

pub returns-in-Some-clause-versions : goal.returns-in-Some-clause-versions
returns-in-Some-clause-versions c =
    let h = c.get_mut.follows.holds c.collect.new.self in
    let t = c.args.time in
    let f = found row_cmp no_row c.args.rows.now c.args.row.now c.in-Some.held.now (search rules) in
    step_each row_cmp same_row no_row (λ b x y. (p : Place) → (chain_of y p).versions ≡ if_collected b t (chain_of x p).versions) c.args.rows.now (c.get_mut.follows.lender c.collect.new.self) c.args.row.now c.collect.new.self (h.3 (search rules))
    (rw f (λ p. ap (λ (row : Chains). (chain_of row p).versions) c.collect.ensures ∙ row_collected t c.in-Some.held.now p)) (λ x p. refl)

pub returns-in_default-clause-versions : goal.returns-in_default-clause-versions
returns-in_default-clause-versions c =
    let same : c.get_mut.follows.lender-at-none ≡ c.args.rows.now = search rules in
    rw same (none_collected c.args.time c.args.rows.now c.args.row.now (search rules))

pub returns-in-Some-clause-ranges : goal.returns-in-Some-clause-ranges
returns-in-Some-clause-ranges c =
    let h = c.get_mut.follows.holds c.collect.new.self in
    let t = c.args.time in
    let f = found row_cmp no_row c.args.rows.now c.args.row.now c.in-Some.held.now (search rules) in
    step_each row_cmp same_row no_row (λ b x y. y.ranges.ranges ≡ ranges_if_collected b t x.deletions.versions x.ranges.ranges) c.args.rows.now (c.get_mut.follows.lender c.collect.new.self) c.args.row.now c.collect.new.self (h.3 (search rules))
    (rw f (ap (λ (row : Chains). row.ranges.ranges) c.collect.ensures)) (λ x. refl)

pub returns-in_default-clause-ranges : goal.returns-in_default-clause-ranges
returns-in_default-clause-ranges c =
    let same : c.get_mut.follows.lender-at-none ≡ c.args.rows.now = search rules in
    rw same (no_ranges_collected c.args.time c.args.rows.now c.args.row.now (search rules))
