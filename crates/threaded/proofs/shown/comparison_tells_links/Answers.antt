use Rattle.threaded.proofs.ShownRuns.{compared}
use Rattle.threaded.proofs.shown.comparison_tells_links.Goals as goal

pub returns : goal.returns
returns c = λ top shown some along senders. compared top shown some along senders
