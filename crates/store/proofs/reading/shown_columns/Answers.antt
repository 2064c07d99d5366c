use Rattle.std.proofs.Common.{rules}
use Rattle.store.proofs.reading.shown_columns.Goals as goal

pub returns-in-Range-clause-ok : goal.returns-in-Range-clause-ok
returns-in-Range-clause-ok c = search rules
