use Rattle.std.proofs.Common.{rules}
use Rattle.logical_time.proofs.ids.WriterPartialEq.eq.Goals as goal

pub returns-then-self-other : goal.returns-then-self-other
returns-then-self-other c = search rules
