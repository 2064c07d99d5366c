use Rattle.std.proofs.Common.{◌≡◌, ◌≤◌, take, drop, length}
use Rattle.std.specs.Prelude.{reverse}
use Rattle.versions.specs.Ends.{LeadTo, versions_of}
use Rattle.versions.proofs.places.mend.Given as goal

-- those from the index on are mended, and those below it are as they were
abbrev pub invariant-loop-i : goal.invariant-loop-i
invariant-loop-i l = record {
  inside : l.i ≤ l.index;
  long : length l.entries ≡ length l.fn.entries;
  older : take l.i l.entries ≡ take l.i l.fn.entries;
  versions : versions_of l.entries ≡ versions_of l.fn.entries;
  ended : LeadTo (reverse (drop l.index l.fn.entries)) l.bound → LeadTo (reverse (drop l.i l.entries)) l.end;
}

abbrev pub decreases-loop-i : goal.decreases-loop-i
decreases-loop-i l = l.i
