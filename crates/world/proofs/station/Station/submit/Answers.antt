use Rattle.std.proofs.Common.{ap, ◌∙◌, Some}
use Rattle.client.specs.State.{finished_of}
use Rattle.world.specs.Run.{with_ended}
use Rattle.world.specs.Holds.{ended_as, kept_after}
use Rattle.world.proofs.lists.Replacing.{station_did}
use Rattle.world.proofs.station.Station.submit.Goals as goal

pub returns-clause-ok : goal.returns-clause-ok
returns-clause-ok c =
    λ top a rep.
    station_did top _ _ _ (record c.args.self.now { op = Some c.args.kept }) _ _ _ c.args.transcript.now.items _ (c.in_ok-number.ensures.step top a rep) c.take_answer-ended.ensures.taken c.in_ok-number.ensures.node c.take_answer-ended.ensures.node
    (c.tell.ensures.kept ∙ ap (λ u. record { node = c.args.self.now.node; session = c.take_answer-ended.new.self; op = kept_after (Some c.args.kept) (finished_of u) }) c.take_answer-ended.ensures.answer)
    (c.tell.ensures.told
    ∙ ap (λ h. with_ended c.args.transcript.now.items (ended_as c.args.self.now.node h (Some c.args.kept) (finished_of c.take_answer-ended.result))) c.home-home.ensures
    ∙ ap (λ u. with_ended c.args.transcript.now.items (ended_as c.args.self.now.node c.args.self.now.session.home.dc (Some c.args.kept) (finished_of u))) c.take_answer-ended.ensures.answer)
