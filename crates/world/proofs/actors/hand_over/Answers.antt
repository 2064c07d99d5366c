use Rattle.world.proofs.lists.Replacing.{shard_did, shard_stands, shard_still}
use Rattle.world.proofs.actors.hand_over.Goals as goal

pub returns-in-Ok-clause-ok : goal.returns-in-Ok-clause-ok
returns-in-Ok-clause-ok c =
    λ top states are apart.
    shard_did top states _ c.args.place _ _ _ _ c.requires are apart
    (c.in-Ok.ensures.step top c.args.place (states c.args.place) (shard_stands top states _ c.args.place _ c.requires c.index_mut.ensures.value are))

pub returns-in-Err-clause-refused : goal.returns-in-Err-clause-refused
returns-in-Err-clause-refused c =
    λ top states are.
    c.in-Err.ensures.refused top c.args.place (states c.args.place) (shard_stands top states _ c.args.place _ c.requires c.index_mut.ensures.value are)

pub returns-in-Err-clause-same : goal.returns-in-Err-clause-same
returns-in-Err-clause-same c =
    λ top states are. shard_still top states c.args.shards.now.items c.args.place c.index_mut.result.now c.handle.new.self c.requires c.index_mut.ensures.value are c.in-Err.ensures.same
