use Rattle.std.proofs.Common.{rules}
use Rattle.store.proofs.reading.writer_of.Goals as goal

pub returns-else-not-is_covered : goal.returns-else-not-is_covered
returns-else-not-is_covered c = search rules
