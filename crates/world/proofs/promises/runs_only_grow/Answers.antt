use Rattle.world.proofs.growing.Grown.{runs_only_grow}
use Rattle.world.proofs.promises.runs_only_grow.Goals as goal

pub returns : goal.returns
returns c = runs_only_grow
