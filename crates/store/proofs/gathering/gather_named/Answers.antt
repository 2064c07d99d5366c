use Rattle.std.proofs.Common.{rules, ◌≡◌, ap, subst, ◌∷◌, filter_map}
use Rattle.std.specs.Option.{option_copied}
use Rattle.store.specs.Gathering.{IsLeft}
use Rattle.store.specs.Sight.{seen_at}
use Rattle.store.proofs.gathering.gather_named.Goals as goal

pub loop-name-preserved : goal.loop-name-preserved
loop-name-preserved c =
    let f = seen_at c.args.moment.now c.args.columns.now.entries in
    let splits : c.loop-name.rest.now ≡ c.in-Some.name.now ∷ c.in-Some.others.now = search rules in
    c.in_ok-add_named.ensures.ok (filter_map f c.in-Some.others.now) (filter_map f c.args.names.now)
    (subst (λ ls. IsLeft (option_copied c.args.deletion) ls (filter_map f c.args.names.now) c.loop-name.found) (ap (filter_map f) splits) c.loop-name.invariant)
