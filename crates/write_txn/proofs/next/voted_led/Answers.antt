use Rattle.std.proofs.Common.{rules}
use Rattle.write_txn.proofs.next.voted_led.Goals as goal

pub returns-in-More-clause-next : goal.returns-in-More-clause-next
returns-in-More-clause-next c = search rules

pub returns-in-More-clause-complete : goal.returns-in-More-clause-complete
returns-in-More-clause-complete c = search rules

pub returns-in-All-clause-next : goal.returns-in-All-clause-next
returns-in-All-clause-next c = search rules

pub returns-in-All-clause-complete : goal.returns-in-All-clause-complete
returns-in-All-clause-complete c = search rules
