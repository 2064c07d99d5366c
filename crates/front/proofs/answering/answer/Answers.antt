use Rattle.std.proofs.Common.{rules}
use Rattle.front.proofs.answering.answer.Goals as goal

pub returns : goal.returns
returns g c = search rules
