use Rattle.std.proofs.Common.{rules}
use Rattle.command_line.proofs.reading.read_words.Goals as goal

pub returns-in-Err : goal.returns-in-Err
returns-in-Err c = search rules
