use Rattle.world.proofs.worked.RefutedOutcomes.{everywhere, told_in_first_centre, times_rise, times_anywhere, homes, times_of_a_centre, ends_once, submits_once}
use Rattle.world.proofs.lookalikes.lookalikes_of_sessions_are_false.Goals as goal

pub returns-clause-told_in_first_centre : goal.returns-clause-told_in_first_centre
returns-clause-told_in_first_centre c = told_in_first_centre

pub returns-clause-times_rise : goal.returns-clause-times_rise
returns-clause-times_rise c = times_rise

pub returns-clause-times_of_a_centre : goal.returns-clause-times_of_a_centre
returns-clause-times_of_a_centre c = times_of_a_centre

pub returns-clause-ends_once : goal.returns-clause-ends_once
returns-clause-ends_once c = ends_once

pub returns-clause-submits_once : goal.returns-clause-submits_once
returns-clause-submits_once c = submits_once

pub returns-clause-everywhere : goal.returns-clause-everywhere
returns-clause-everywhere c = everywhere

pub returns-clause-times_anywhere : goal.returns-clause-times_anywhere
returns-clause-times_anywhere c = times_anywhere

pub returns-clause-homes : goal.returns-clause-homes
returns-clause-homes c = homes
