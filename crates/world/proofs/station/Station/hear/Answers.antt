use Rattle.std.proofs.Common.{ap, ◌∙◌}
use Rattle.client.specs.State.{finished_of}
use Rattle.world.specs.Run.{with_ended}
use Rattle.world.specs.Holds.{ended_as, kept_after}
use Rattle.world.proofs.lists.Replacing.{station_did}
use Rattle.world.proofs.station.Station.hear.Goals as goal

pub returns-in-Ok-clause-ok : goal.returns-in-Ok-clause-ok
returns-in-Ok-clause-ok c =
    λ top a rep.
    station_did top _ _ _ c.args.self.now _ _ _ c.args.transcript.now.items _ (c.in-Ok.ensures.step top a rep) c.take_answer-ended.ensures.taken c.in-Ok.ensures.node c.take_answer-ended.ensures.node
    (c.tell.ensures.kept ∙ ap (λ u. record { node = c.args.self.now.node; session = c.take_answer-ended.new.self; op = kept_after c.args.self.now.op (finished_of u) }) c.take_answer-ended.ensures.answer)
    (c.tell.ensures.told
    ∙ ap (λ h. with_ended c.args.transcript.now.items (ended_as c.args.self.now.node h c.args.self.now.op (finished_of c.take_answer-ended.result))) c.home-home.ensures
    ∙ ap (λ u. with_ended c.args.transcript.now.items (ended_as c.args.self.now.node c.args.self.now.session.home.dc c.args.self.now.op (finished_of u))) c.take_answer-ended.ensures.answer)
