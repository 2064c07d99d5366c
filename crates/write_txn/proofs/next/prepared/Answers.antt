use Rattle.std.proofs.Common.{rules}
use Rattle.write_txn.proofs.next.prepared.Goals as goal

pub returns-in-Kept : goal.returns-in-Kept
returns-in-Kept c = search rules
