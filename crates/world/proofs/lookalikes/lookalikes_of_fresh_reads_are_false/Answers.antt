use Rattle.world.proofs.worked.RefutedFreshness.{newer, other_rows, other_columns, at_delivery}
use Rattle.world.proofs.lookalikes.lookalikes_of_fresh_reads_are_false.Goals as goal

pub returns-clause-newer : goal.returns-clause-newer
returns-clause-newer c = newer

pub returns-clause-other_rows : goal.returns-clause-other_rows
returns-clause-other_rows c = other_rows

pub returns-clause-other_columns : goal.returns-clause-other_columns
returns-clause-other_columns c = other_columns

pub returns-clause-at_delivery : goal.returns-clause-at_delivery
returns-clause-at_delivery c = at_delivery
