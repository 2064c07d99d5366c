use Rattle.std.proofs.Common.{rules}
use Rattle.write_txn.proofs.open.Remote.is_last.Goals as goal

pub returns-then-is_last : goal.returns-then-is_last
returns-then-is_last c = search rules
