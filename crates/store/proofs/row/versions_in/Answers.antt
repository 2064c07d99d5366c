use Rattle.std.proofs.Common.{◌≡◌, ◌+◌, List, [], subst, rules}
use Rattle.std.specs.BTreeMap.{values}
use Rattle.std.specs.List.{sum_by}
use Rattle.store.specs.Holdings.{counted, versions_held}
use Rattle.store.proofs.lists.Counts.{all_counted}
use Rattle.store.proofs.row.versions_in.Goals as goal

pub returns : goal.returns
returns c =
    let done : c.loop-chain.chain-iterator ≡ [] = search rules in
    all_counted c.loop-chain.sum _ c.loop-chain.invariant.within (rw done at c.loop-chain.invariant.all)
