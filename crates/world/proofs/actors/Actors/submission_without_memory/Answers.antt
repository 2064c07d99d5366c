use Rattle.std.proofs.Common.{◌∙◌}
use Rattle.world.proofs.lists.Replacing.{item_at}
use Rattle.world.proofs.in_code.Taking.{place_of, place_below}
use Rattle.world.proofs.in_code.Unready.{submission_unready, acceptable, unacceptable}
use Rattle.world.proofs.actors.Actors.submission_without_memory.Goals as goal

pub returns-in-Ok : goal.returns-in-Ok
returns-in-Ok c =
    let same = c.from.ensures ∙ c.get.ensures in
    let to = place_of c.args.session c.from.result c.len.result _ same (c.len.ensures ∙ c.args.self.now.shards.ok.0) c.requires.station in
    let lt = place_below c.args.session _ _ _ to c.requires.stations in
    let at = item_at _ _ _ lt c.index.ensures in
    λ top events is.
    submission_unready top events c.args.self.now is c.args.session _ c.args.op.now _ _ to at lt (λ t z r. acceptable _ (c.in-Ok.ensures.allowed t z r))

pub returns-in-Err : goal.returns-in-Err
returns-in-Err c =
    let same = c.from.ensures ∙ c.get.ensures in
    let to = place_of c.args.session c.from.result c.len.result _ same (c.len.ensures ∙ c.args.self.now.shards.ok.0) c.requires.station in
    let lt = place_below c.args.session _ _ _ to c.requires.stations in
    let at = item_at _ _ _ lt c.index.ensures in
    λ top events is.
    submission_unready top events c.args.self.now is c.args.session _ c.args.op.now _ _ to at lt (λ t z r. unacceptable _ _ (c.in-Err.ensures.refused t z r))
