use Rattle.std.proofs.Common.{◌≡◌, take, map}
use Rattle.client.proofs.envelopes.shards_of.Given as goal

-- the cohorts are the shards of the parts so far
abbrev pub invariant-loop-part : goal.invariant-loop-part
invariant-loop-part l = l.cohorts ≡ take l.part-index (map (λ p. p.shard) l.parts)
