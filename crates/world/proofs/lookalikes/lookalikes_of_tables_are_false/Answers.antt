use Rattle.world.proofs.worked.RefutedReads.{past_shown, earlier_table, later_table, first_centre, past_below, past_in_first_centre}
use Rattle.world.proofs.lookalikes.lookalikes_of_tables_are_false.Goals as goal

pub returns-clause-earlier_table : goal.returns-clause-earlier_table
returns-clause-earlier_table c = earlier_table

pub returns-clause-later_table : goal.returns-clause-later_table
returns-clause-later_table c = later_table

pub returns-clause-first_centre : goal.returns-clause-first_centre
returns-clause-first_centre c = first_centre

pub returns-clause-past_below : goal.returns-clause-past_below
returns-clause-past_below c = past_below

pub returns-clause-past_in_first_centre : goal.returns-clause-past_in_first_centre
returns-clause-past_in_first_centre c = past_in_first_centre

pub returns-clause-past_shown : goal.returns-clause-past_shown
returns-clause-past_shown c = past_shown
