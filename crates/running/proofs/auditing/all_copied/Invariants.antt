use Rattle.std.proofs.Common.{◌≡◌, ◌++◌}
use Rattle.running.proofs.auditing.all_copied.Given as goal

-- the copies so far, and those that are still to come, are all
abbrev pub invariant-loop-one : goal.invariant-loop-one
invariant-loop-one l = l.completed.items ++ l.one-iterator ≡ l.fn.ended
