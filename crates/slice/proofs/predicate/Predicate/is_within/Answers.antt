use Rattle.std.proofs.Common.{rules}
use Rattle.slice.proofs.predicate.Predicate.is_within.Goals as goal

pub returns-then-columns-count : goal.returns-then-columns-count
returns-then-columns-count c = search rules
