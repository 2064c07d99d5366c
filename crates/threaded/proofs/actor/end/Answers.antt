use Rattle.std.proofs.Common.{rules}
use Rattle.threaded.proofs.actor.end.Goals as goal

pub returns-else-is_some-clause-ended : goal.returns-else-is_some-clause-ended
returns-else-is_some-clause-ended c = search rules

pub returns-else-is_some-clause-kept : goal.returns-else-is_some-clause-kept
returns-else-is_some-clause-kept c = search rules

pub returns-else-is_some-clause-over : goal.returns-else-is_some-clause-over
returns-else-is_some-clause-over c = search rules

pub returns-else-is_some-clause-taken : goal.returns-else-is_some-clause-taken
returns-else-is_some-clause-taken c = search rules

pub returns-then-is_some-clause-over : goal.returns-then-is_some-clause-over
returns-then-is_some-clause-over c = search rules
