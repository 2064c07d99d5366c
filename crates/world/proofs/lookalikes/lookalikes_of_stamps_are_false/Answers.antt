use Rattle.world.proofs.worked.RefutedHistories.{commit_times_agree, commit_times, below_commits, causes, converse}
use Rattle.world.proofs.lookalikes.lookalikes_of_stamps_are_false.Goals as goal

pub returns-clause-commit_times_agree : goal.returns-clause-commit_times_agree
returns-clause-commit_times_agree c = commit_times_agree

pub returns-clause-commit_times : goal.returns-clause-commit_times
returns-clause-commit_times c = commit_times

pub returns-clause-below : goal.returns-clause-below
returns-clause-below c = below_commits

pub returns-clause-causes : goal.returns-clause-causes
returns-clause-causes c = causes

pub returns-clause-converse : goal.returns-clause-converse
returns-clause-converse c = converse
