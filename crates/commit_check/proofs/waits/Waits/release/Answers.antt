use Rattle.std.proofs.Common.{rules}
use Rattle.commit_check.proofs.waits.Waits.release.Goals as goal

pub returns : goal.returns
returns c = search rules
