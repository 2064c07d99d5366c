use Rattle.std.proofs.Common.{rules, ◌≡◌, ◌≤◌, ◌+◌, refl, subst, length, arith}
use Rattle.std.specs.Prelude.{if◌then◌else◌, ◌&&◌}
use Rattle.column_family.specs.Places.{row_cmp}
use Rattle.versions.specs.Chain.{put_of}
use Rattle.store.specs.Stored.{Place, Chains, no_row, chain_of, is_of_place, version_of}
use Rattle.store.proofs.lists.Maps.{each_row, found, not_found}
use Rattle.store.proofs.newest.Places.{IsReady, nowhere, nothing_there}
use Rattle.store.proofs.rows.put_mutation.Goals as goal

pub put-requires : goal.put-requires
put-requires c = λ p at.
    let f = found row_cmp no_row c.args.rows.now c.args.row.now c.in-Some.held.now (search rules) in
    subst (λ (row : Chains). IsReady c.args.origin.now.stamp (chain_of row p)) f (c.requires p at)

pub returns-in-Some-clause-versions : goal.returns-in-Some-clause-versions
returns-in-Some-clause-versions c =
    let h = c.get_mut.follows.holds c.put.new.self in
    let f = found row_cmp no_row c.args.rows.now c.args.row.now c.in-Some.held.now (search rules) in
    each_row (λ b x y. (p : Place) → (chain_of y p).versions ≡ (if b && is_of_place p c.args.mutation then put_of (chain_of x p).versions (version_of c.args.origin.now c.args.mutation) else (chain_of x p).versions)) c.args.rows.now (c.get_mut.follows.lender c.put.new.self) c.args.row.now c.put.new.self (h.3 (search rules)) (rw f c.put.ensures.versions) (λ x p. refl)

pub returns-in-Some-clause-room : goal.returns-in-Some-clause-room
returns-in-Some-clause-room c =
    let h = c.get_mut.follows.holds c.put.new.self in
    let f = found row_cmp no_row c.args.rows.now c.args.row.now c.in-Some.held.now (search rules) in
    each_row (λ b x y. (p : Place) → (chain_of x p).room ≤ (chain_of y p).room + (if b && is_of_place p c.args.mutation then 1 else 0)) c.args.rows.now (c.get_mut.follows.lender c.put.new.self) c.args.row.now c.put.new.self (h.3 (search rules)) (rw f c.put.ensures.room) (λ x p. omega arith)

pub returns-in-Some-clause-more : goal.returns-in-Some-clause-more
returns-in-Some-clause-more c = λ no p at few.
    let h = c.get_mut.follows.holds c.put.new.self in
    let was = found row_cmp no_row c.args.rows.now c.args.row.now c.in-Some.held.now (search rules) in
    let held = found row_cmp no_row (c.get_mut.follows.lender c.put.new.self) c.args.row.now c.put.new.self (h.3 (search rules)).1 in
    rw held (c.put.ensures.more no p at (subst (λ (row : Chains). length (chain_of row p).versions ≤ 1) was few))

pub returns-in-Some-clause-ranges : goal.returns-in-Some-clause-ranges
returns-in-Some-clause-ranges c =
    let h = c.get_mut.follows.holds c.put.new.self in
    let f = found row_cmp no_row c.args.rows.now c.args.row.now c.in-Some.held.now (search rules) in
    each_row (λ b x y. y.ranges ≡ x.ranges) c.args.rows.now (c.get_mut.follows.lender c.put.new.self) c.args.row.now c.put.new.self (h.3 (search rules)) (rw f c.put.ensures.ranges) (λ x. refl)

pub returns-in-None-clause-versions : goal.returns-in-None-clause-versions
returns-in-None-clause-versions c = λ r p.
    let same : c.get_mut.follows.lender-at-none ≡ c.args.rows.now = search rules in
    let none = not_found row_cmp no_row c.args.rows.now c.args.row.now (search rules) in
    rw (same, nowhere c.args.rows.now.entries c.args.row.now c.args.mutation c.args.origin.now.stamp none c.requires r p) refl

pub returns-in-None-clause-more : goal.returns-in-None-clause-more
returns-in-None-clause-more c = λ no p at few.
    let same : c.get_mut.follows.lender-at-none ≡ c.args.rows.now = search rules in
    rw same (nothing_there c.args.rows.now.entries c.args.row.now (not_found row_cmp no_row c.args.rows.now c.args.row.now (search rules)) p)
