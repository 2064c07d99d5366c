use Rattle.std.proofs.Common.{rules}
use Rattle.column_family.proofs.schema.Schema.contains.Goals as goal

pub returns : goal.returns
returns c = search rules
