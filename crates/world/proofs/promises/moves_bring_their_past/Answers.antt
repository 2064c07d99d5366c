use Rattle.world.proofs.promised.Laws.{moves_bring_their_past}
use Rattle.world.proofs.promises.moves_bring_their_past.Goals as goal

pub returns : goal.returns
returns c = moves_bring_their_past
