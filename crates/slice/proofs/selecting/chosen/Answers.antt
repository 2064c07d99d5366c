use Rattle.std.proofs.Common.{rules}
use Rattle.slice.proofs.selecting.chosen.Goals as goal

pub returns-in-Names-clause-ok : goal.returns-in-Names-clause-ok
returns-in-Names-clause-ok c = rw (c.in-Names.is, ← c.as_slice.ensures) c.named.ensures.ok

pub returns-in-Range-default-default-false-default-clause-ok : goal.returns-in-Range-default-default-false-default-clause-ok
returns-in-Range-default-default-false-default-clause-ok c = search rules
