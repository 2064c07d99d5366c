use Rattle.std.proofs.Common.{◌≡◌, map}
use Rattle.std.specs.List.{range_with_len}
use Rattle.site_port.specs.Collecting.{clock_of}
use Rattle.site_port.proofs.collecting.clocks_here.Given as goal

-- the clocks of the shards so far
abbrev pub invariant-loop-shard : goal.invariant-loop-shard
invariant-loop-shard g l = l.clocks.items ≡ map (clock_of l.site.site) (range_with_len 0 l.shard)
