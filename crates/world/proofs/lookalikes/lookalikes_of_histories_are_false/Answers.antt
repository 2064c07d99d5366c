use Rattle.world.proofs.worked.RefutedHistories.{never_grow, submitted, own_times, first_centre}
use Rattle.world.proofs.lookalikes.lookalikes_of_histories_are_false.Goals as goal

pub returns-clause-never_grow : goal.returns-clause-never_grow
returns-clause-never_grow c = never_grow

pub returns-clause-submitted : goal.returns-clause-submitted
returns-clause-submitted c = submitted

pub returns-clause-own_times : goal.returns-clause-own_times
returns-clause-own_times c = own_times

pub returns-clause-first_centre : goal.returns-clause-first_centre
returns-clause-first_centre c = first_centre
