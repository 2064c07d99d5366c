use Rattle.std.proofs.Common.{rules}
use Rattle.front.proofs.memory.MemoryLine.said.Goals as goal

pub returns : goal.returns
returns c = search rules
