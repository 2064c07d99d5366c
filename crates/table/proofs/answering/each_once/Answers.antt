use Rattle.std.proofs.Common.{rules}
use Rattle.table.proofs.answering.each_once.Goals as goal

pub returns-in_ok-each_of_few-clause-ok : goal.returns-in_ok-each_of_few-clause-ok
returns-in_ok-each_of_few-clause-ok c = search rules
