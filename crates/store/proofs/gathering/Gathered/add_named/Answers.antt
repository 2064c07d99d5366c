use Rattle.std.proofs.Common.{rules, ◌≡◌, Some}
use Rattle.store.specs.Sight.{named, seen_at}
use Rattle.store.proofs.gathering.Gathered.add_named.Goals as goal

pub returns-in-Some-clause-ok : goal.returns-in-Some-clause-ok
returns-in-Some-clause-ok c =
    let sees : seen_at c.args.moment.now c.args.columns.now.entries c.args.name.now ≡ Some (named c.in-Some.one) = search rules in
    rw sees c.add.ensures.ok
