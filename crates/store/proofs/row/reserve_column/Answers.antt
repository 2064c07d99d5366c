use Rattle.std.proofs.Common.{rules, ◌≡◌, ◌≤◌, refl, arith}
use Rattle.store.specs.Stored.{name_cmp, nothing_held}
use Rattle.store.proofs.lists.Maps.{each_column, found}
use Rattle.store.proofs.row.reserve_column.Goals as goal

pub returns-in-Some-clause-versions : goal.returns-in-Some-clause-versions
returns-in-Some-clause-versions c =
    let h = c.get_mut.follows.holds c.reserve.new.self in
    let f = found name_cmp nothing_held c.args.columns.now c.args.name.now c.in-Some.chain.now (search rules) in
    each_column (λ b x y. y.versions ≡ x.versions) c.args.columns.now (c.get_mut.follows.lender c.reserve.new.self) c.args.name.now c.reserve.new.self (h.3 (search rules)) (rw f (search rules)) (λ x. refl)

pub returns-in-Some-clause-room : goal.returns-in-Some-clause-room
returns-in-Some-clause-room c =
    let h = c.get_mut.follows.holds c.reserve.new.self in
    let f = found name_cmp nothing_held c.args.columns.now c.args.name.now c.in-Some.chain.now (search rules) in
    each_column (λ b x y. x.room ≤ y.room) c.args.columns.now (c.get_mut.follows.lender c.reserve.new.self) c.args.name.now c.reserve.new.self (h.3 (search rules)) (rw f (search rules)) (λ x. omega arith)
