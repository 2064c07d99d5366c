use Rattle.std.proofs.Common.{rules}
use Rattle.pending.proofs.row_marks.set_time.Goals as goal

pub returns-clause-ok : goal.returns-clause-ok
returns-clause-ok c = search rules
