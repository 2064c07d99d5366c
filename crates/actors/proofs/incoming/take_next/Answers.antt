use Rattle.std.proofs.lemmas.Grind.{elements, common_steps}
use Rattle.std.proofs.Common.{arith}
use Rattle.actors.proofs.incoming.take_next.Goals as goal

pub returns-in-None-clause-received : goal.returns-in-None-clause-received
returns-in-None-clause-received c = λ journal apart kept. c.poll-in-None.ensures.received journal (rw c.poll.ensures.sources apart) (c.in-None.ensures.received journal apart kept)

pub poll-requires-in-None : goal.poll-requires-in-None
poll-requires-in-None c = grind (arith, common_steps)

pub returns-in-Some-clause-found : goal.returns-in-Some-clause-found
returns-in-Some-clause-found c = grind (arith, common_steps)

pub returns-in-None-clause-found : goal.returns-in-None-clause-found
returns-in-None-clause-found c = grind (arith, common_steps)

pub returns-in-None-clause-none : goal.returns-in-None-clause-none
returns-in-None-clause-none c = grind (arith, elements)
