use Rattle.std.proofs.Common.{◌∙◌, ◌<◌, ◌≤◌, sym, subst}
use Rattle.world.proofs.lists.Replacing.{item_at}
use Rattle.world.proofs.in_code.Taking.{place_of, place_below}
use Rattle.world.proofs.in_code.Unready.{shard_clock, station_clock}
use Rattle.world.proofs.actors.Actors.clock_of.Goals as goal

pub returns-then-place-shards : goal.returns-then-place-shards
returns-then-place-shards c =
    let lt = subst (λ z. c.from-place.result < z) (c.len-shards.ensures ∙ c.args.self.now.shards.ok.0) c.if-place-shards.true in
    λ top events is.
    shard_clock top events c.args.self.now is c.args.node c.from-place.result _ (c.from-place.ensures ∙ c.get.ensures) lt (item_at _ _ _ lt c.index.ensures) ∙ sym c.clock.ensures

pub returns-else-place-shards : goal.returns-else-place-shards
returns-else-place-shards c =
    let same = c.from-place.ensures ∙ c.get.ensures in
    let len = c.len-shards.ensures ∙ c.args.self.now.shards.ok.0 in
    let to = place_of c.args.node c.from-place.result c.len-shards.result _ same len (subst (λ z. z ≤ c.args.node) len (subst (λ z. c.len-shards.result ≤ z) same c.if-place-shards.false)) in
    let lt = place_below c.args.node _ _ _ to c.requires in
    λ top events is.
    station_clock top events c.args.self.now is c.args.node _ _ to lt (item_at _ _ _ lt c.index-else-place-shards.ensures) ∙ sym c.clock-else-place-shards.ensures
