use Rattle.std.proofs.Common.{◌≡◌, length, take}
use Rattle.equality.proofs.answers.same_rows.Given as goal

abbrev pub invariant-loop-place : goal.invariant-loop-place
invariant-loop-place l = record {
  lengths : length l.a ≡ length l.b;
  same : take l.place l.a ≡ take l.place l.b;
}
