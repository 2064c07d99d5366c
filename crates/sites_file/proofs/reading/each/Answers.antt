use Rattle.std.proofs.lemmas.List.{map_more, map-append}
use Rattle.std.proofs.lemmas.Result.{err_from_is_err_and}
use Rattle.serde_json.specs.View.{view}
use Rattle.workload.proofs.Lists.{all_by_snoc, all_by_fails}
use Rattle.sites_file.specs.Sites.{site_of}
use Rattle.sites_file.proofs.reading.each.Goals as goal

pub returns-in_err-site : goal.returns-in_err-site
returns-in_err-site c =
    let p = err_from_is_err_and c.from_residual.result c.from_residual.ensures.1 in
    rw (p.1, p.2, ← c.deref-item-items.ensures.value) (all_by_fails site_of view c.deref-item-items.result.now c.loop-item.item-index c.item-item.result c.in_err-site.field-0.0 c.loop-item-test.true (rw (← c.item-item.is) c.in_err-site.ensures))

pub loop-item-preserved : goal.loop-item-preserved
loop-item-preserved c =
    let xs = c.deref-item-items.result.now in
    let more = map_more view xs c.loop-item.item-index c.item-item.result c.loop-item-test.true in
    let so_far = rw (← c.deref-item-items.ensures.value) at c.loop-item.invariant in
    rw (← c.deref-item-items.ensures.value, more, c.in_ok-push.ensures.items, map-append) (all_by_snoc site_of _ _ _ _ so_far (rw (← c.item-item.is) c.in_ok-site.ensures))
