use Rattle.std.proofs.Common.{refl, sym, ◌∙◌}
use Rattle.world.proofs.in_code.Taking.{below_named, shard_takes, shard_refuses, shards_still}
use Rattle.world.proofs.actors.Actors.to_shard.Goals as goal

pub hand_over-requires : goal.hand_over-requires
hand_over-requires c = below_named c.args.envelope.to c.from-place.result _ (c.from-place.ensures ∙ c.get.ensures) c.requires

pub returns-in-Ok-clause-ok : goal.returns-in-Ok-clause-ok
returns-in-Ok-clause-ok c =
    let same = c.from-place.ensures ∙ c.get.ensures in
    λ top events k is sent.
    shard_takes top events k c.from-place.result c.args.envelope c.args.self.now _ is sent (sym same) (below_named c.args.envelope.to c.from-place.result _ same c.requires) (λ t states are apart. c.in-Ok.ensures.ok t states are apart) refl refl refl

pub returns-in-Err-clause-refused : goal.returns-in-Err-clause-refused
returns-in-Err-clause-refused c =
    let same = c.from-place.ensures ∙ c.get.ensures in
    λ top events k is sent.
    shard_refuses top events k c.from-place.result c.args.envelope c.args.self.now _ is sent (sym same) (below_named c.args.envelope.to c.from-place.result _ same c.requires) (λ t states are. c.in-Err.ensures.refused t states are)

pub returns-in-Err-clause-same : goal.returns-in-Err-clause-same
returns-in-Err-clause-same c =
    λ top events is. shards_still top events c.args.self.now _ is c.in-Err.ensures.same refl refl c.in-Err.ensures.unsent refl
