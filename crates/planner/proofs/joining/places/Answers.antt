use Rattle.std.proofs.Common.{◌≡◌, rules}
use Rattle.planner.proofs.Found.{place_step}
use Rattle.planner.proofs.joining.places.Goals as goal

pub loop-last-preserved : goal.loop-last-preserved
loop-last-preserved c =
    let same : c.in_ok-clone.field-0 ≡ c.in-Some.last.now.key = search rules in
    place_step c.args.rows.now c.loop-last.rest.now c.in-Some.earlier.now c.in-Some.last.now c.in_ok-clone.field-0 c.loop-last.places c.insert.new.self
    c.in-Some.ensures.cases.0 same (search rules) c.loop-last.invariant
