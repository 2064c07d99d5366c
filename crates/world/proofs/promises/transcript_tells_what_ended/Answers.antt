use Rattle.world.proofs.promised.Laws.{entries_are_of_submissions, outcomes_are_listed}
use Rattle.world.proofs.promises.transcript_tells_what_ended.Goals as goal

pub returns-clause-entries : goal.returns-clause-entries
returns-clause-entries c = entries_are_of_submissions

pub returns-clause-outcomes : goal.returns-clause-outcomes
returns-clause-outcomes c = outcomes_are_listed
