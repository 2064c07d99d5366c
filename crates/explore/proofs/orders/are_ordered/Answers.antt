use Rattle.std.proofs.Common.{◌∙◌, sym}
use Rattle.explore.proofs.Ordered.{by_actors}
use Rattle.explore.proofs.orders.are_ordered.Goals as goal

pub returns-then-not-are_steps : goal.returns-then-not-are_steps
returns-then-not-are_steps c = (λ e. cc, λ h. sym c.if-not-are_steps.true ∙ (c.are_steps.ensures ∙ h.steps))

pub returns : goal.returns
returns c =
    by_actors c.args.lose c.args.actors c.args.asked.now c.args.done.now c.are_steps.result c.in_ok-own.own c.if-not-are_steps.false c.are_steps.ensures
    c.in_ok-own.ensures
