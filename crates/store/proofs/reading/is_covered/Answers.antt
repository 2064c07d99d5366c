use Rattle.std.proofs.Common.{rules}
use Rattle.store.proofs.reading.is_covered.Goals as goal

pub returns-in-Some : goal.returns-in-Some
returns-in-Some c = search rules
