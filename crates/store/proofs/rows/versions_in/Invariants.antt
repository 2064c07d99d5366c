use Rattle.std.proofs.Common.{◌≡◌, ◌+◌, ◌≤◌}
use Rattle.std.specs.BTreeMap.{values}
use Rattle.std.specs.List.{sum_by}
use Rattle.store.specs.Holdings.{counted, versions_of}
use Rattle.store.proofs.rows.versions_in.Given as goal

abbrev pub invariant-loop-row : goal.invariant-loop-row
invariant-loop-row l = record {
  all : counted (l.sum + sum_by versions_of l.row-iterator) ≡ counted (sum_by versions_of (values l.rows));
  within : l.sum ≤ 18446744073709551615;
}
