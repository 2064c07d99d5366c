use Rattle.std.proofs.Common.{rules}
use Rattle.commit_check.proofs.reading_at.answer_with.Goals as goal

pub returns-clause-ok : goal.returns-clause-ok
returns-clause-ok c = search rules
