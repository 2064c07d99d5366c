use Rattle.world.proofs.worked.RefutedShards.{completed, nearly_quiet, anywhere, one_is_done, one_before}
use Rattle.world.proofs.lookalikes.lookalikes_of_quiet_runs_are_false.Goals as goal

pub returns-clause-nearly_quiet : goal.returns-clause-nearly_quiet
returns-clause-nearly_quiet c = nearly_quiet

pub returns-clause-anywhere : goal.returns-clause-anywhere
returns-clause-anywhere c = anywhere

pub returns-clause-one_is_done : goal.returns-clause-one_is_done
returns-clause-one_is_done c = one_is_done

pub returns-clause-one_before : goal.returns-clause-one_before
returns-clause-one_before c = one_before

pub returns-clause-completed : goal.returns-clause-completed
returns-clause-completed c = completed
