use Rattle.linking.proofs.Saids.{one_said}
use Rattle.linking.proofs.law.what_is_spelled_is_one_said.Goals as goal

pub returns : goal.returns
returns c = one_said
