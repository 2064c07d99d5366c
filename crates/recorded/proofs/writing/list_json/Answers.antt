use Rattle.std.proofs.Common.{◌∙◌, ap, map, take_all, Some}
use Rattle.serde_json.specs.View.{view}
use Rattle.recorded.proofs.Listed.{one_more_spelled}
use Rattle.recorded.proofs.Spelled.{list_spelled}
use Rattle.recorded.proofs.writing.list_json.Goals as goal

pub loop-item-preserved : goal.loop-item-preserved
loop-item-preserved g c =
    let f = g.T.Written.stands_for c.args.families.now c.args.homes in
    let step =
    one_more_spelled f g.T.Written.most c.loop-item.all.items c.in_ok-to_json.field-0 c.args.items.now c.loop-item.item-index c.item-item.result
    c.loop-item-test.true c.item-item.is c.loop-item.invariant.stands c.loop-item.invariant.nests c.in_ok-to_json.ensures.ok
    in
    rw c.in_ok-push.ensures.items (record { stands = step.0; nests = step.1 })

pub returns-clause-ok : goal.returns-clause-ok
returns-clause-ok g c =
    let whole = take_all c.loop-item.item-index c.args.items.now c.loop-item-test.false in
    list_spelled (g.T.Written.stands_for c.args.families.now c.args.homes) g.T.Written.most (view c.from.result) (map view c.loop-item.all.items) c.args.items.now
    c.from.ensures (c.loop-item.invariant.stands ∙ ap (λ xs. Some xs) whole) c.loop-item.invariant.nests
