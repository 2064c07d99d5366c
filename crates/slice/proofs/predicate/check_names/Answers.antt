use Rattle.std.proofs.Common.{rules}
use Rattle.slice.proofs.predicate.check_names.Goals as goal

pub returns-then-names-gt-MOST_NAMES : goal.returns-then-names-gt-MOST_NAMES
returns-then-names-gt-MOST_NAMES c = search rules
