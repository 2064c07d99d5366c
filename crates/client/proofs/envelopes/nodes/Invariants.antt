use Rattle.std.proofs.Common.{◌≡◌, ◌++◌, length, map}
use Rattle.client.specs.Envelopes.{node_in}
use Rattle.client.proofs.envelopes.nodes.Given as goal

-- the nodes so far, then those of what is left, are those of all
abbrev pub invariant-loop-rest : goal.invariant-loop-rest
invariant-loop-rest l =
    l.nodes.items ++ map (λ s. node_in l.home s.shard) l.rest ≡ map (λ s. node_in l.home s.shard) l.shares

abbrev pub decreases-loop-rest : goal.decreases-loop-rest
decreases-loop-rest l = length l.rest
