use Rattle.std.proofs.Common.{◌∙◌, refl}
use Rattle.world.specs.Run.{run}
use Rattle.present.proofs.Going.{shard_collected, collection_refuses, still_holds}
use Rattle.present.proofs.actors.Actors.collect.Goals as goal

pub returns-in-Ok-clause-ok : goal.returns-in-Ok-clause-ok
returns-in-Ok-clause-ok c =
    λ top events h.
    shard_collected top events c.args.self.now _ h c.args.shard c.from.result c.args.time (c.from.ensures ∙ c.get.ensures) c.requires c.in-Ok.ensures.ok refl refl refl refl refl

pub returns-in-Err-clause-refused : goal.returns-in-Err-clause-refused
returns-in-Err-clause-refused c =
    λ top events h.
    collection_refuses top events c.args.self.now c.args.self.now h c.args.shard c.from.result c.args.time c.in-Err.fault (c.from.ensures ∙ c.get.ensures) c.requires c.in-Err.ensures.refused

pub returns-in-Err-clause-same : goal.returns-in-Err-clause-same
returns-in-Err-clause-same c =
    λ top events h. still_holds top events c.args.self.now _ h top refl refl (c.in-Err.ensures.same top (run top events).shards h.present.shards) refl refl
