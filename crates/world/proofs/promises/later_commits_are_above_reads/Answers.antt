use Rattle.world.proofs.promised.Laws.{later_commits_are_above}
use Rattle.world.proofs.promises.later_commits_are_above_reads.Goals as goal

pub returns : goal.returns
returns c = later_commits_are_above
