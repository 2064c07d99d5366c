use Rattle.hello.proofs.Meetings.{tag_again}
use Rattle.hello.proofs.law.tags_are_of_one_frame.Goals as goal

pub returns : goal.returns
returns c = tag_again
