use Rattle.audit.proofs.Same.{right_is_meaning}
use Rattle.audit.proofs.law.right_answers_are_the_meaning.Goals as goal

pub returns : goal.returns
returns c = right_is_meaning
