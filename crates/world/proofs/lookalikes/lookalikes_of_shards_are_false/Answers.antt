use Rattle.world.proofs.worked.RefutedShards.{all_that_was_sent, without_collections, each_node}
use Rattle.world.proofs.lookalikes.lookalikes_of_shards_are_false.Goals as goal

pub returns-clause-all_that_was_sent : goal.returns-clause-all_that_was_sent
returns-clause-all_that_was_sent c = all_that_was_sent

pub returns-clause-without_collections : goal.returns-clause-without_collections
returns-clause-without_collections c = without_collections

pub returns-clause-each_node : goal.returns-clause-each_node
returns-clause-each_node c = each_node
