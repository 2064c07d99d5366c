use Rattle.std.proofs.Common.{◌≡◌, ◌≤◌, ◌*◌, take}
use Rattle.logfile.specs.Sites.{turns_of}
use Rattle.logfile.proofs.site_counts.turns_of.Given as goal

-- the turns so far are summed, and each entry has so many at most
abbrev pub invariant-loop-entry : goal.invariant-loop-entry
invariant-loop-entry l = record {
  summed : l.turns ≡ turns_of (take l.entry-index l.entries);
  few : l.turns ≤ l.entry-index * 4294967295;
}
