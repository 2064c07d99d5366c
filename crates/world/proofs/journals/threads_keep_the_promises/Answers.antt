use Rattle.world.proofs.promised.Threaded.{show_one_table, keep_promises}
use Rattle.world.proofs.journals.threads_keep_the_promises.Goals as goal

pub returns-clause-table : goal.returns-clause-table
returns-clause-table c = show_one_table

pub returns-clause-runs : goal.returns-clause-runs
returns-clause-runs c = keep_promises
