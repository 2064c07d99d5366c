use Rattle.std.proofs.Common.{rules}
use Rattle.client.proofs.moving.after_ok.Goals as goal

pub returns-in-More : goal.returns-in-More
returns-in-More c = search rules

pub returns-in-Ended : goal.returns-in-Ended
returns-in-Ended c = search rules
