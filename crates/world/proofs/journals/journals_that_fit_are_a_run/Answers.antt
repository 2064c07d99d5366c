use Rattle.world.proofs.replays.Merged.{are_a_run}
use Rattle.world.proofs.replays.OwnJournals.{runs_fit}
use Rattle.world.proofs.replays.Links.{links_are_a_run}
use Rattle.world.proofs.journals.journals_that_fit_are_a_run.Goals as goal

pub returns-clause-fit : goal.returns-clause-fit
returns-clause-fit c = are_a_run

pub returns-clause-links : goal.returns-clause-links
returns-clause-links c = links_are_a_run

pub returns-clause-only : goal.returns-clause-only
returns-clause-only c = runs_fit
