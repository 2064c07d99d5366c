use Rattle.threaded.proofs.ShownRuns.{shown_fit, matching_fit}
use Rattle.threaded.proofs.shown.shown_journals_are_a_run.Goals as goal

pub returns-clause-fit : goal.returns-clause-fit
returns-clause-fit c = λ top shown some along senders timed match. shown_fit top shown some along senders timed match

pub returns-clause-links : goal.returns-clause-links
returns-clause-links c = λ top shown some along senders match. matching_fit top shown some along senders match
