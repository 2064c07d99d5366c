use Rattle.std.proofs.Common.{rules}
use Rattle.column_family.proofs.byte_strings.has_length.Goals as goal

pub returns-else-bytes-ge1 : goal.returns-else-bytes-ge1
returns-else-bytes-ge1 c = search rules
