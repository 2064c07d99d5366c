use Rattle.std.proofs.Common.{rules}
use Rattle.client.proofs.moving.dep_ok.Goals as goal

pub returns-in-Move : goal.returns-in-Move
returns-in-Move c = search rules
