use Rattle.std.proofs.Common.{[], ◌∷◌, filter_map}
use Rattle.store.specs.Sight.{seen_at}
use Rattle.store.proofs.gathering.gather_two.Goals as goal

pub returns-clause-ok : goal.returns-clause-ok
returns-clause-ok c =
    let f = seen_at c.args.moment.now c.args.columns.now.entries in
    let all = filter_map f (c.args.first.now ∷ c.args.second.now ∷ []) in
    c.in_ok-add_named-2.ensures.ok [] all (c.in_ok-add_named.ensures.ok (filter_map f (c.args.second.now ∷ [])) all (c.in_ok-found.ensures all))
