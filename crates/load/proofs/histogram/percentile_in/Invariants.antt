use Rattle.std.proofs.Common.{◌≡◌, ◌*◌, ◌<◌, take}
use Rattle.std.specs.List.{sum}
use Rattle.load.proofs.histogram.percentile_in.Given as goal

abbrev pub invariant-loop-bucket : goal.invariant-loop-bucket
invariant-loop-bucket l = (l.reached ≡ sum (take l.bucket l.counts)) × (1000 * l.reached < l.permille * l.total)
