use Rattle.std.proofs.Common.{◌≡◌, rules}
use Rattle.column_family.proofs.Firsts.{first_begin, first_step}
use Rattle.column_family.proofs.normalizing.first_places.Goals as goal

pub loop-last-init : goal.loop-last-init
loop-last-init c = first_begin c.args.changes.now c.new-first.result c.new-first.ensures.empty

pub loop-last-preserved : goal.loop-last-preserved
loop-last-preserved c =
    let same : c.in_ok-clone.field-0 ≡ c.in-Some.last.now.row = search rules in
    first_step c.args.changes.now c.loop-last.rest.now c.in-Some.earlier.now c.in-Some.last.now c.in_ok-clone.field-0 c.loop-last.first c.insert.new.self
    c.in-Some.ensures.cases.0 same (search rules) c.loop-last.invariant
