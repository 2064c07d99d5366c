use Rattle.std.proofs.Common.{◌∙◌, ◌++◌, ◌∷◌, [], ap}
use Rattle.world.specs.declared.run_event.RunEvent.TheVariants.{Submit}
use Rattle.present.proofs.Calls.{then_holds, end_told}
use Rattle.present.proofs.Tidied.{then_rests}
use Rattle.present.proofs.present.Present.submit.Goals as goal

pub invariant_of-self : goal.invariant_of-self
invariant_of-self c =
    let happened = c.add_submission.ensures ∙ ap (λ o. c.self.inside.past ++ Submit c.args.session o ∷ []) c.of-was.ensures in (
      then_holds c.self.inside.actors _ c.self.inside.past _ _ c.self.invariant.0 (c.in-Ok.ensures.ok c.self.inside.actors.topology c.self.inside.past c.self.invariant.0).0
          c.submit.ensures.topology happened,
      then_rests c.self.inside.actors c.submit.new.self c.self.inside.past _ (Submit c.args.session c.args.op) c.self.invariant.1 tt c.submit.ensures.topology happened,
    )

pub returns-in-Ok-clause-ended : goal.returns-in-Ok-clause-ended
returns-in-Ok-clause-ended c =
    end_told c.args.self.now c.self.inside.actors c.submit.new.self c.self.inside.past _ _ c.in-Ok.accepted.1 c.self.view_is c.submit.ensures.topology
    (c.add_submission.ensures ∙ ap (λ o. c.self.inside.past ++ Submit c.args.session o ∷ []) c.of-was.ensures)
    (c.in-Ok.ensures.ok c.self.inside.actors.topology c.self.inside.past c.self.invariant.0).1
