use Rattle.std.proofs.Common.{[], ◌∷◌, OnOk, subst, sym}
use Rattle.messages.specs.declared.event.ActorEvent.TheVariants.{Submit}
use Rattle.site.specs.Steps.{Asked}
use Rattle.durable_site.specs.Stuck.{HasRedone}
use Rattle.durable_site.proofs.Redone.{done_redone}
use Rattle.durable_site.proofs.replaying.ask.Goals as goal
use Rattle.durable_site.proofs.replaying.ask.Goals.{in-Ok, in-Err}

pub returns-clause-ok : goal.returns-clause-ok
returns-clause-ok g c =
    let old = c.args.site.now in
    let new = c.submit.new.self in
    elim c.match-submit.branch [
      | in-Ok w ↦ subst (λ r. OnOk r (HasRedone old (Asked c.args.node c.args.op ∷ []) new)) (sym w.result-is) (done_redone old new c.args.node (Submit c.args.op) w.in-Ok.field-0.ended w.in-Ok.ensures.submitted.0)
      | in-Err w ↦ subst (λ r. OnOk r (HasRedone old (Asked c.args.node c.args.op ∷ []) new)) (sym w.result-is) tt
    ]
