use Rattle.std.proofs.Common.{rules}
use Rattle.planner.proofs.checks.check_change.Goals as goal

pub returns-then-not-is_allowed : goal.returns-then-not-is_allowed
returns-then-not-is_allowed c = search rules
