use Rattle.std.proofs.Common.{◌+◌, ◌-◌, refl, ◌∙◌, ap}
use Rattle.world.proofs.in_code.Taking.{place_of, place_below}
use Rattle.world.proofs.lists.Replacing.{item_at}
use Rattle.world.proofs.in_code.Opened.{station_submits, submit_refuses, submit_number}
use Rattle.world.proofs.actors.Actors.accept.Goals as goal

pub returns-in-Ok-clause-ok : goal.returns-in-Ok-clause-ok
returns-in-Ok-clause-ok c =
    let same = c.from.ensures ∙ c.get.ensures in
    let to = place_of c.args.session c.from.result c.len.result _ same (c.len.ensures ∙ c.args.self.now.shards.ok.0) c.requires.station in
    let lt = place_below c.args.session _ _ _ to c.requires.stations in
    let at = item_at _ _ _ lt c.index_mut.ensures.value in
    λ top events is. (
      station_submits top events (c.from.result - c.len.result) c.args.session c.args.op c.args.kept c.args.self.now _ _ _ is to at lt refl c.requires.same c.in-Ok.ensures.ok refl refl,
      c.in-Ok.ensures.number ∙ ap (λ n. n + 1) (submit_number top events (c.from.result - c.len.result) c.args.session c.args.self.now _ is to at),
    )

pub returns-in-Err-clause-refused : goal.returns-in-Err-clause-refused
returns-in-Err-clause-refused c =
    let same = c.from.ensures ∙ c.get.ensures in
    let to = place_of c.args.session c.from.result c.len.result _ same (c.len.ensures ∙ c.args.self.now.shards.ok.0) c.requires.station in
    let lt = place_below c.args.session _ _ _ to c.requires.stations in
    let at = item_at _ _ _ lt c.index_mut.ensures.value in
    λ top events is. submit_refuses top events (c.from.result - c.len.result) c.args.session c.args.op c.args.self.now _ _ is to at lt c.in-Err.ensures.refused
