use Rattle.std.proofs.Common.{◌∙◌, ℕ, ap, subst, Err, inr}
use Rattle.messages.specs.Topology.{session_node}
use Rattle.service.specs.declared.asking.Unanswered.{Unanswered}
use Rattle.service.specs.Port.{IsUntold, AsksTelling}
use Rattle.service.proofs.awaited.PresentHost.ask.Goals as goal

pub returns-in-Err-Untold-clause-asks : goal.returns-in-Err-Untold-clause-asks
returns-in-Err-Untold-clause-asks c =
    let old = c.args.self.now in
    let after = c.ask_present.new.world.events in
    let n = c.session_node-session.ensures ∙ ap (λ t. session_node t c.args.index) c.topology.ensures.value in
    inr
    (subst (λ (m : ℕ). IsUntold old.top m c.args.op old.events c.in-Err-Untold.fault after) n
    (subst (λ (u : Unanswered). AsksTelling old.top c.session_node-session.result old.events c.args.op (Err u) after) c.in-Err-Untold.field-0-is c.in-Err-Untold.ensures.asks))
