use Rattle.std.proofs.Common.{◌≡◌, take}
use Rattle.std.specs.List.{fold}
use Rattle.store.specs.Holdings.{no_holdings}
use Rattle.present.specs.Held.{held_too}
use Rattle.present.proofs.actors.Actors.holdings.Given as goal

abbrev pub invariant-loop-shard : goal.invariant-loop-shard
invariant-loop-shard l = l.held ≡ fold held_too no_holdings (take l.shard-index l.self.shards.items)
