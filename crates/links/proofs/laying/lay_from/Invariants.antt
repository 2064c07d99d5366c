use Rattle.std.proofs.Common.{◌≡◌, length}
use Rattle.links.proofs.LaidFrom.{AreLaidBelow}
use Rattle.links.proofs.laying.lay_from.Given as goal

abbrev pub invariant-loop-to : goal.invariant-loop-to
invariant-loop-to l = record {
  count : length l.ends.items ≡ length l.fn.ends.items;
  laid : AreLaidBelow l.topology l.capacity l.from l.to l.fn.ends.items l.ends.items;
}
