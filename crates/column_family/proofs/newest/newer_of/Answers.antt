use Rattle.std.proofs.Common.{rules}
use Rattle.column_family.proofs.newest.newer_of.Goals as goal

pub returns-in-Some-Some : goal.returns-in-Some-Some
returns-in-Some-Some c = search rules

pub returns-in-Some-default : goal.returns-in-Some-default
returns-in-Some-default c = search rules
