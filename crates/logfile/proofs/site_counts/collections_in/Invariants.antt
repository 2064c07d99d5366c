use Rattle.std.proofs.Common.{◌≡◌, ◌≤◌, take}
use Rattle.std.specs.Prelude.{count_by}
use Rattle.logfile.specs.Sites.{is_collection}
use Rattle.logfile.proofs.site_counts.collections_in.Given as goal

-- the collections so far are counted
abbrev pub invariant-loop-entry : goal.invariant-loop-entry
invariant-loop-entry l = record {
  counted : l.collections ≡ count_by is_collection (take l.entry-index l.entries);
  few : l.collections ≤ l.entry-index;
}
