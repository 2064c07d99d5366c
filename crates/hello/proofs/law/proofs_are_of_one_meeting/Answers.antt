use Rattle.hello.proofs.Meetings.{proof_again}
use Rattle.hello.proofs.law.proofs_are_of_one_meeting.Goals as goal

pub returns : goal.returns
returns c = proof_again
