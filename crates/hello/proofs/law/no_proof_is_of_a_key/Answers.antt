use Rattle.hello.proofs.Meetings.{no_key}
use Rattle.hello.proofs.law.no_proof_is_of_a_key.Goals as goal

pub returns : goal.returns
returns c = no_key
