use Rattle.world.proofs.promised.Laws.{histories_tell, named_in_runs, coordinators_in_runs}
use Rattle.world.proofs.promises.histories_tell_what_is_decided.Goals as goal

pub returns-clause-entries : goal.returns-clause-entries
returns-clause-entries c = histories_tell

pub returns-clause-submissions : goal.returns-clause-submissions
returns-clause-submissions c = named_in_runs

pub returns-clause-coordinators : goal.returns-clause-coordinators
returns-clause-coordinators c = coordinators_in_runs
