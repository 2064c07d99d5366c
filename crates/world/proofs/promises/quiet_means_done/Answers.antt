use Rattle.world.proofs.promised.Laws.{quiet_means_done}
use Rattle.world.proofs.promises.quiet_means_done.Goals as goal

pub returns : goal.returns
returns c = quiet_means_done
