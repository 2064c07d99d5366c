use Rattle.std.proofs.Common.{rules}
use Rattle.wire.proofs.fields.count.Goals as goal

pub returns-then-rest-count : goal.returns-then-rest-count
returns-then-rest-count c = search rules
