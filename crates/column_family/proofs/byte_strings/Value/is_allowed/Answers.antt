use Rattle.std.proofs.Common.{rules}
use Rattle.column_family.proofs.byte_strings.Value.is_allowed.Goals as goal

pub returns : goal.returns
returns c = search rules
