use Rattle.std.proofs.Common.{◌≡◌, ◌++◌, drop}
use Rattle.workload.specs.Marks.{merged}
use Rattle.workload.proofs.marks.with_outcomes.Given as goal

-- the entries so far, with those of the marks that are left, are all
abbrev pub invariant-loop-mark : goal.invariant-loop-mark
invariant-loop-mark l = l.transcript ++ merged (drop l.mark-index l.marks) l.rest.rest.items ≡ merged l.marks l.fn.completed.items
