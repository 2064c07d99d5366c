use Rattle.std.proofs.Common.{rules}
use Rattle.logical_time.proofs.time.Time.new.Goals as goal

pub invariant_of-result : goal.invariant_of-result
invariant_of-result c = search rules
