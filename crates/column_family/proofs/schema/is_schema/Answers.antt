use Rattle.std.proofs.Common.{rules}
use Rattle.column_family.proofs.schema.is_schema.Goals as goal

pub returns-then-are_family_names : goal.returns-then-are_family_names
returns-then-are_family_names c = search rules
