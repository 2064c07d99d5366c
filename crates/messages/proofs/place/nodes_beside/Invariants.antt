use Rattle.std.proofs.Common.{◌≡◌, ◌+◌, ◌*◌, map}
use Rattle.std.specs.Prelude.{not, ◌==◌, filter}
use Rattle.std.specs.List.{range_with_len}
use Rattle.messages.proofs.place.nodes_beside.Given as goal

-- the nodes so far are those of the data centres so far
abbrev pub invariant-loop-dc : goal.invariant-loop-dc
invariant-loop-dc l =
    l.nodes.items ≡ map (λ d. d * l.home.shards + l.shard) (filter (λ d. not (d == l.home.dc)) (range_with_len 0 l.dc))
