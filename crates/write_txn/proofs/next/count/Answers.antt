use Rattle.std.proofs.Common.{rules}
use Rattle.write_txn.proofs.next.count.Goals as goal

pub returns-in-Notice : goal.returns-in-Notice
returns-in-Notice c = search rules
