use Rattle.std.proofs.Common.{◌≡◌, ◌<◌, take}
use Rattle.threaded.specs.Submitted.{count_of}
use Rattle.threaded.proofs.entries.find_from.Given as goal

abbrev pub invariant-loop-place : goal.invariant-loop-place
invariant-loop-place l = record {
  passed : l.passed ≡ count_of (take l.place l.journal);
  lower : l.passed < l.number;
}
