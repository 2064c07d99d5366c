use Rattle.std.proofs.Common.{◌≡◌, take}
use Rattle.column_family.specs.History.{up_to}
use Rattle.column_family.proofs.newest.up_to.Given as goal

abbrev pub invariant-loop-entry : goal.invariant-loop-entry
invariant-loop-entry l = l.kept.items ≡ up_to l.time (take l.entry-index l.history)
