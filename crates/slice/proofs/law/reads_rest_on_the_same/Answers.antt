use Rattle.slice.proofs.Standing.{stands_for_rests}
use Rattle.slice.proofs.law.reads_rest_on_the_same.Goals as goal

pub returns : goal.returns
returns c = stands_for_rests
