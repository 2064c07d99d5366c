use Rattle.world.proofs.promised.Laws.{histories_grow}
use Rattle.world.proofs.promises.histories_only_grow.Goals as goal

pub returns : goal.returns
returns c = histories_grow
