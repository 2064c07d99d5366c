use Rattle.hello.proofs.Meetings.{key_again}
use Rattle.hello.proofs.law.keys_are_of_one_meeting.Goals as goal

pub returns : goal.returns
returns c = key_again
