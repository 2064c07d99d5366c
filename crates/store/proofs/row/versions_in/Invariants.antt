use Rattle.std.proofs.Common.{◌≡◌, ◌+◌, ◌≤◌}
use Rattle.std.specs.BTreeMap.{values}
use Rattle.std.specs.List.{sum_by}
use Rattle.store.specs.Holdings.{counted, versions_held}
use Rattle.store.proofs.row.versions_in.Given as goal

abbrev pub invariant-loop-chain : goal.invariant-loop-chain
invariant-loop-chain l = record {
  all : counted (l.sum + sum_by versions_held l.chain-iterator) ≡ counted (sum_by versions_held (values l.columns));
  within : l.sum ≤ 18446744073709551615;
}
