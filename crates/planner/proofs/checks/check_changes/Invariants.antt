use Rattle.std.proofs.Common.{◌≡◌, drop}
use Rattle.planner.specs.Checks.{changes_fault}
use Rattle.planner.proofs.checks.check_changes.Given as goal

-- no change so far has a fault
abbrev pub invariant-loop-change : goal.invariant-loop-change
invariant-loop-change l = changes_fault l.schema l.changes ≡ changes_fault l.schema (drop l.change-index l.changes)
