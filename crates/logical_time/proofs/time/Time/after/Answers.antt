use Rattle.std.proofs.Common.{rules}
use Rattle.logical_time.proofs.time.Time.after.Goals as goal

pub returns-then-next-lt-END-clause-ok : goal.returns-then-next-lt-END-clause-ok
returns-then-next-lt-END-clause-ok c = search rules

pub returns-then-next-lt-END-clause-spent : goal.returns-then-next-lt-END-clause-spent
returns-then-next-lt-END-clause-spent c = search rules
