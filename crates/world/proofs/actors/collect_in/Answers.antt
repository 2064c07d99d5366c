use Rattle.messages.specs.ShardEvents.{shard_collect}
use Rattle.world.proofs.lists.Replacing.{on_ok, if_err, shard_did, shard_stands, refused_as}
use Rattle.world.proofs.actors.collect_in.Goals as goal

pub returns-clause-ok : goal.returns-clause-ok
returns-clause-ok c =
    λ top states are apart.
    on_ok c.collect.result (shard_did top states _ c.args.place _ _ _ _ c.requires are apart)
    (c.collect.ensures.step top c.args.place (states c.args.place) (shard_stands top states _ c.args.place _ c.requires c.index_mut.ensures.value are))

pub returns-clause-refused : goal.returns-clause-refused
returns-clause-refused c =
    λ top states are.
    if_err c.collect.result (refused_as (shard_collect (states c.args.place) c.args.time))
    (c.collect.ensures.refused top c.args.place (states c.args.place) (shard_stands top states _ c.args.place _ c.requires c.index_mut.ensures.value are))
