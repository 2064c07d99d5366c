use Rattle.std.proofs.Common.{rules}
use Rattle.program.proofs.input.Input.read_all.Goals as goal

pub returns-clause-causes : goal.returns-clause-causes
returns-clause-causes c = search rules

pub returns-then-is_some-clause-whole : goal.returns-then-is_some-clause-whole
returns-then-is_some-clause-whole c = search rules

pub returns-then-is_some-clause-failed : goal.returns-then-is_some-clause-failed
returns-then-is_some-clause-failed c = search rules
