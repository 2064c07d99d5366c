use Rattle.std.proofs.Common.{rules}
use Rattle.wire.specs.Reading.{body_at}
use Rattle.wire.proofs.reading.body.Goals as goal

pub returns-then-is_empty : goal.returns-then-is_empty
unfolding body_at
returns-then-is_empty c = search rules
