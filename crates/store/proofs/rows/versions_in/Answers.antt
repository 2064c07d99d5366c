use Rattle.std.proofs.Common.{◌≡◌, ◌+◌, List, [], subst, rules}
use Rattle.std.specs.BTreeMap.{values}
use Rattle.std.specs.List.{sum_by}
use Rattle.store.specs.Holdings.{counted, versions_of}
use Rattle.store.proofs.lists.Counts.{all_counted}
use Rattle.store.proofs.rows.versions_in.Goals as goal

pub returns : goal.returns
returns c =
    let done : c.loop-row.row-iterator ≡ [] = search rules in
    all_counted c.loop-row.sum _ c.loop-row.invariant.within (rw done at c.loop-row.invariant.all)
