use Rattle.std.proofs.Common.{◌∙◌}
use Rattle.world.proofs.lists.Replacing.{item_at}
use Rattle.world.proofs.histories.AskedFor.{decided_there, within_home}
use Rattle.world.proofs.history.decided.Goals as goal

pub returns : goal.returns
returns c =
    let at = c.from.ensures ∙ c.get.ensures ∙ c.node_of-node.ensures in
    λ top states e are.
    decided_there top states c.args.home c.args.shards.now c.args.batch.now c.args.txn c.from.result c.coordinator.result c.index-shards-from.result c.decided.result e are
    at c.coordinator.ensures.value (item_at c.args.shards.now c.from.result c.index-shards-from.result
    (within_home c.args.home.dc c.args.home.shards c.coordinator.result c.from.result _ at (c.coordinator.ensures.below c.requires.some) c.requires.shards) c.index-shards-from.is) c.decided.ensures
