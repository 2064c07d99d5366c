use Rattle.std.proofs.Common.{[], ◌∷◌, OnOk, subst, sym}
use Rattle.messages.specs.declared.event.ActorEvent.TheVariants.{Collect}
use Rattle.site.specs.Steps.{Collected}
use Rattle.durable_site.specs.Stuck.{HasRedone}
use Rattle.durable_site.proofs.Redone.{done_redone}
use Rattle.durable_site.proofs.replaying.collect.Goals as goal
use Rattle.durable_site.proofs.replaying.collect.Goals.{in-Ok, in-Err}

pub returns-clause-ok : goal.returns-clause-ok
returns-clause-ok g c =
    let old = c.args.site.now in
    let new = c.collect.new.self in
    elim c.match-collect.branch [
      | in-Ok w ↦ subst (λ r. OnOk r (HasRedone old (Collected c.args.node c.args.time ∷ []) new)) (sym w.result-is) (done_redone old new c.args.node (Collect c.args.time) w.in-Ok.field-0 w.in-Ok.ensures.collected)
      | in-Err w ↦ subst (λ r. OnOk r (HasRedone old (Collected c.args.node c.args.time ∷ []) new)) (sym w.result-is) tt
    ]
