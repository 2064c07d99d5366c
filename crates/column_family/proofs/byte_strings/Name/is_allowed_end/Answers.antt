use Rattle.std.proofs.Common.{rules}
use Rattle.column_family.proofs.byte_strings.Name.is_allowed_end.Goals as goal

pub returns : goal.returns
returns c = search rules
