use Rattle.std.proofs.Common.{rules}
use Rattle.explore.proofs.exploring.found_at.Goals as goal

pub returns : goal.returns
returns c = (rw c.as_str.ensures.value at c.in_ok-count.ensures, search rules)
