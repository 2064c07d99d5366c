use Rattle.slice.proofs.Rested.{tested_if_rested}
use Rattle.messages.proofs.law.writers_are_rested_on.Goals as goal

pub returns : goal.returns
returns c = tested_if_rested
