use Rattle.std.proofs.Common.{rules, ◌≡◌, ◌≤◌, refl, arith}
use Rattle.store.specs.Stored.{name_cmp, nothing_held}
use Rattle.store.proofs.lists.Maps.{each_column, not_found}
use Rattle.store.proofs.row.add_column.Goals as goal

pub returns-clause-versions : goal.returns-clause-versions
returns-clause-versions c =
    let f = not_found name_cmp nothing_held c.args.columns.now c.args.name.now (search rules) in
    let same : c.in_ok-clone.field-0 ≡ c.args.name.now = search rules in
    each_column (λ b x y. y.versions ≡ x.versions) c.args.columns.now c.insert.new.self c.in_ok-clone.field-0 c.in_ok-chain.chain c.in_ok-insert.ensures.updates (rw (same, f) (search rules)) (λ x. refl)

pub returns-clause-room : goal.returns-clause-room
returns-clause-room c =
    let f = not_found name_cmp nothing_held c.args.columns.now c.args.name.now (search rules) in
    let same : c.in_ok-clone.field-0 ≡ c.args.name.now = search rules in
    each_column (λ b x y. x.room ≤ y.room) c.args.columns.now c.insert.new.self c.in_ok-clone.field-0 c.in_ok-chain.chain c.in_ok-insert.ensures.updates (rw (same, f) (omega arith)) (λ x. omega arith)
