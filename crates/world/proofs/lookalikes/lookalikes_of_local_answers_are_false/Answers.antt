use Rattle.world.proofs.worked.RefutedLocal.{moves_stay, away, own_messages}
use Rattle.world.proofs.lookalikes.lookalikes_of_local_answers_are_false.Goals as goal

pub returns-clause-moves_stay : goal.returns-clause-moves_stay
returns-clause-moves_stay c = moves_stay

pub returns-clause-away : goal.returns-clause-away
returns-clause-away c = away

pub returns-clause-own_messages : goal.returns-clause-own_messages
returns-clause-own_messages c = own_messages
