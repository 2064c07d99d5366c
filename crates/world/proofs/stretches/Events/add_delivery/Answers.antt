use Rattle.std.proofs.Common.{◌≡◌, ◌∙◌, ap, ◌++◌, ◌∷◌, [], length, rules}
use Rattle.world.specs.Events.{EventsValue}
use Rattle.world.specs.Run.{Deliver}
use Rattle.world.proofs.in_code.Stretched.{last_took}
use Rattle.world.proofs.stretches.Events.add_delivery.Goals as goal

pub returns-then-takes : goal.returns-then-takes
returns-then-takes c =
    let is : c.len-count.result ≡ length c.self.inside.stretches.items = search rules in
    last_took c.self.inside.stretches.items c.len-count.result _ c.takes.new.self (Deliver c.args.number) is c.if-count-gt0.true c.index_mut.ensures.value (c.takes.ensures.taken c.if-takes.true)
    ∙ ap (λ (z : EventsValue). z.items ++ Deliver c.args.number ∷ []) c.self.view_is
