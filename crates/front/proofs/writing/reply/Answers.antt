use Rattle.std.proofs.Common.{rules}
use Rattle.front.proofs.writing.reply.Goals as goal

pub returns-in-Err-clause-puts : goal.returns-in-Err-clause-puts
returns-in-Err-clause-puts g c = search rules
