use Rattle.version_gc.proofs.CollectedRanges.{dropped_alike}
use Rattle.version_gc.proofs.law.ranges_are_dropped_in_any_order.Goals as goal

pub returns : goal.returns
returns c = dropped_alike
