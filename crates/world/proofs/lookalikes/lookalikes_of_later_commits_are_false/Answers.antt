use Rattle.world.proofs.worked.RefutedReads.{all_commits, any_row, far_above, above_its_home, completed_before}
use Rattle.world.proofs.lookalikes.lookalikes_of_later_commits_are_false.Goals as goal

pub returns-clause-all_commits : goal.returns-clause-all_commits
returns-clause-all_commits c = all_commits

pub returns-clause-any_row : goal.returns-clause-any_row
returns-clause-any_row c = any_row

pub returns-clause-far_above : goal.returns-clause-far_above
returns-clause-far_above c = far_above

pub returns-clause-above_its_home : goal.returns-clause-above_its_home
returns-clause-above_its_home c = above_its_home

pub returns-clause-completed_before : goal.returns-clause-completed_before
returns-clause-completed_before c = completed_before
