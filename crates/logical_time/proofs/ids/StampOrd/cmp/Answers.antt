use Rattle.std.proofs.Common.{rules}
use Rattle.logical_time.proofs.ids.StampOrd.cmp.Goals as goal

pub returns : goal.returns
returns c = search rules
