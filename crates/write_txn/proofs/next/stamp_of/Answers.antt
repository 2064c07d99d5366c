use Rattle.std.proofs.Common.{rules}
use Rattle.write_txn.proofs.next.stamp_of.Goals as goal

pub returns-in-Some : goal.returns-in-Some
returns-in-Some c = search rules
