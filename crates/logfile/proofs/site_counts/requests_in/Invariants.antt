use Rattle.std.proofs.Common.{◌≡◌, ◌≤◌, take}
use Rattle.std.specs.Prelude.{count_by}
use Rattle.logfile.specs.Sites.{is_request}
use Rattle.logfile.proofs.site_counts.requests_in.Given as goal

-- the requests so far are counted
abbrev pub invariant-loop-entry : goal.invariant-loop-entry
invariant-loop-entry l = record {
  counted : l.requests ≡ count_by is_request (take l.entry-index l.entries);
  few : l.requests ≤ l.entry-index;
}
