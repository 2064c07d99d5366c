use Rattle.threaded.proofs.ShownRuns.{all_told, all_timed, match_alike}
use Rattle.threaded.proofs.shown.runs_are_as_shown.Goals as goal

pub returns-clause-told : goal.returns-clause-told
returns-clause-told c = λ top shown some along fit node lt. all_told top shown some along fit node lt

pub returns-clause-timed : goal.returns-clause-timed
returns-clause-timed c = λ top shown some along fit node lt. all_timed top shown some along fit node lt

pub returns-clause-alike : goal.returns-clause-alike
returns-clause-alike c = λ top shown some along fit. match_alike top shown some along fit
