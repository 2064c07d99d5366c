use Rattle.std.proofs.Common.{rules}
use Rattle.command_line.proofs.told.Told.answer.Goals as goal

pub returns-in-Refused : goal.returns-in-Refused
returns-in-Refused c = search rules

pub returns-in-Err : goal.returns-in-Err
returns-in-Err c = search rules
