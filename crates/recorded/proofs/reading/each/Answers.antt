use Rattle.std.proofs.lemmas.List.{map_more}
use Rattle.std.proofs.lemmas.Result.{err_from_is_err_and}
use Rattle.serde_json.specs.View.{view}
use Rattle.workload.proofs.Lists.{all_by_snoc, all_by_fails}
use Rattle.recorded.proofs.reading.each.Goals as goal

pub returns-in_err-of_json : goal.returns-in_err-of_json
returns-in_err-of_json g c =
    let p = err_from_is_err_and c.from_residual-in_err-of_json.result c.from_residual-in_err-of_json.ensures.1 in
    rw (p.1, p.2, ← c.deref-item-items.ensures.value) (all_by_fails (g.T.Piece.stands_for c.args.families.now c.args.homes) view c.deref-item-items.result.now c.loop-item.item-index c.item-item.result c.in_err-of_json.field-0.0 c.loop-item-test.true (rw (← c.item-item.is) c.in_err-of_json.ensures))

pub loop-item-preserved : goal.loop-item-preserved
loop-item-preserved g c =
    let xs = c.deref-item-items.result.now in
    let more = map_more view xs c.loop-item.item-index c.item-item.result c.loop-item-test.true in
    let so_far = rw (← c.deref-item-items.ensures.value) at c.loop-item.invariant in
    rw (← c.deref-item-items.ensures.value, more, c.in_ok-push.ensures.items) (all_by_snoc (g.T.Piece.stands_for c.args.families.now c.args.homes) _ _ _ _ so_far (rw (← c.item-item.is) c.in_ok-of_json.ensures))
