use Rattle.std.proofs.Common.{refl, ◌∙◌}
use Rattle.world.proofs.in_code.Taking.{shard_collects, collect_refuses, shards_still, below_named, collect_named, refused_named}
use Rattle.world.proofs.actors.Actors.collect.Goals as goal

pub returns-in-Ok-clause-ok : goal.returns-in-Ok-clause-ok
returns-in-Ok-clause-ok c =
    let same = c.from.ensures ∙ c.get.ensures in
    λ top events is.
    collect_named top events c.args.shard c.from.result c.args.time _ same
    (shard_collects top events c.from.result c.args.time c.args.self.now _ is (below_named c.args.shard c.from.result _ same c.requires) c.in-Ok.ensures.ok refl refl refl refl)

pub returns-in-Err-clause-refused : goal.returns-in-Err-clause-refused
returns-in-Err-clause-refused c =
    let same = c.from.ensures ∙ c.get.ensures in
    λ top events is.
    refused_named top events c.args.shard c.from.result c.args.time _ same
    (collect_refuses top events c.from.result c.args.time c.args.self.now _ is (below_named c.args.shard c.from.result _ same c.requires) c.in-Err.ensures.refused)

pub returns-in-Err-clause-same : goal.returns-in-Err-clause-same
returns-in-Err-clause-same c = λ top events is. shards_still top events c.args.self.now _ is c.in-Err.ensures.same refl refl refl refl
