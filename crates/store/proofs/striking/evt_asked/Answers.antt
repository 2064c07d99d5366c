use Rattle.std.proofs.Common.{rules, ◌≡◌, ◌∙◌, ◌∷◌, ◌+◌, ap, sym, subst, max, map, drop, List}
use Rattle.std.proofs.lemmas.List.{drop_more}
use Rattle.store.specs.declared.striking.Standing.{Standing}
use Rattle.store.specs.Struck.{ranged, evt_asked}
use Rattle.store.proofs.seen.Strikes.{evt_step}
use Rattle.store.proofs.striking.evt_asked.Goals as goal

pub loop-one-preserved : goal.loop-one-preserved
loop-one-preserved c =
    let p = c.args.predicate.now in
    let x = c.one-item.result in
    let rest = drop (c.loop-one.one-index + 1) c.args.ranges.now in
    let split : drop c.loop-one.one-index c.args.ranges.now ≡ x ∷ rest =
    drop_more c.args.ranges.now c.loop-one.one-index x c.loop-one-test.true ∙ ap (λ (y : Standing). y ∷ rest) (sym c.one-item.is) in
    let so_far : max c.loop-one.evt (evt_asked p (map ranged (x ∷ rest))) ≡ evt_asked p (map ranged c.args.ranges.now) =
    subst (λ (xs : List Standing). max c.loop-one.evt (evt_asked p (map ranged xs)) ≡ evt_asked p (map ranged c.args.ranges.now)) split c.loop-one.invariant in
    evt_step p x.range.now (map ranged rest) c.loop-one.evt _ (evt_asked p (map ranged c.args.ranges.now)) (search rules) so_far
