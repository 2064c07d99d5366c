use Rattle.std.proofs.Common.{rules}
use Rattle.client.proofs.moving.end_move.Goals as goal

pub returns : goal.returns
returns c = search rules
