use Rattle.std.proofs.Common.{rules}
use Rattle.write_txn.proofs.next.readied.Goals as goal

pub readied_remote-requires : goal.readied_remote-requires
readied_remote-requires c = search rules

pub returns-in-Remote-clause-next : goal.returns-in-Remote-clause-next
returns-in-Remote-clause-next c = search rules

pub returns-in-Remote-clause-complete : goal.returns-in-Remote-clause-complete
returns-in-Remote-clause-complete c = search rules
