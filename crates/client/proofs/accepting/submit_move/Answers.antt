use Rattle.std.proofs.Common.{arith}
use Rattle.client.proofs.Planned.{posted_move}
use Rattle.client.proofs.accepting.submit_move.Goals as goal

pub returns-clause-sends : goal.returns-clause-sends
returns-clause-sends c = grind (arith, posted_move)
