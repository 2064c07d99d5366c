use Rattle.std.proofs.Common.{rules}
use Rattle.commit_check.proofs.reading_now.latest.Goals as goal

pub returns-in-Some : goal.returns-in-Some
returns-in-Some c = search rules
