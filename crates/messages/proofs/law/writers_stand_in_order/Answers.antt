use Rattle.messages.proofs.WritersInOrder.{writers_stay}
use Rattle.messages.proofs.law.writers_stand_in_order.Goals as goal

pub returns-clause-stay : goal.returns-clause-stay
returns-clause-stay c = writers_stay
