use Rattle.std.proofs.Common.{rules}
use Rattle.store.proofs.store.Store.moment_at.Goals as goal

pub returns-else-lt-clause-ok : goal.returns-else-lt-clause-ok
returns-else-lt-clause-ok c = search rules

pub returns-then-lt-clause-refused : goal.returns-then-lt-clause-refused
returns-then-lt-clause-refused c = search rules
