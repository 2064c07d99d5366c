use Rattle.std.proofs.Common.{rules}
use Rattle.command_line.proofs.reading.refuse_words.Goals as goal

pub returns-then-eq : goal.returns-then-eq
returns-then-eq c = search rules
