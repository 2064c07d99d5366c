use Rattle.std.proofs.Common.{◌-◌, refl, ◌∙◌}
use Rattle.world.proofs.lists.Replacing.{item_at}
use Rattle.world.proofs.in_code.Taking.{place_of, place_below, station_takes, station_refuses}
use Rattle.world.proofs.actors.Actors.to_session.Goals as goal

pub returns-in-Ok-clause-ok : goal.returns-in-Ok-clause-ok
returns-in-Ok-clause-ok c =
    let same = c.from.ensures ∙ c.get.ensures in
    let to = place_of c.args.envelope.to c.from.result c.len.result _ same (c.len.ensures ∙ c.args.self.now.shards.ok.0) c.requires.to.0 in
    let lt = place_below c.args.envelope.to _ _ _ to c.requires.to.1 in
    let at = item_at _ _ _ lt c.index_mut.ensures.value in
    λ top events k is sent.
    station_takes top events k (c.from.result - c.len.result) c.args.envelope c.args.self.now _ _ _ is sent to at lt refl c.in-Ok.ensures.ok refl refl

pub returns-in-Err-clause-refused : goal.returns-in-Err-clause-refused
returns-in-Err-clause-refused c =
    let same = c.from.ensures ∙ c.get.ensures in
    let to = place_of c.args.envelope.to c.from.result c.len.result _ same (c.len.ensures ∙ c.args.self.now.shards.ok.0) c.requires.to.0 in
    let lt = place_below c.args.envelope.to _ _ _ to c.requires.to.1 in
    let at = item_at _ _ _ lt c.index_mut.ensures.value in
    λ top events k is sent.
    station_refuses top events k (c.from.result - c.len.result) c.args.envelope c.args.self.now _ _ is sent to at lt c.in-Err.ensures.refused
