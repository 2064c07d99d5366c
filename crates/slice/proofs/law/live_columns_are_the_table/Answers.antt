use Rattle.slice.proofs.LiveTable.{live_if_in_table_at}
use Rattle.slice.proofs.law.live_columns_are_the_table.Goals as goal

pub returns-clause-table : goal.returns-clause-table
returns-clause-table c = live_if_in_table_at
