use Rattle.world.proofs.promised.Laws.{reads_show_their_past}
use Rattle.world.proofs.promises.reads_show_their_past.Goals as goal

pub returns : goal.returns
returns c = reads_show_their_past
