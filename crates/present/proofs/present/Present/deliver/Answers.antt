use Rattle.std.proofs.Common.{◌<◌, length, subst, sym}
use Rattle.world.specs.World.{WorldValue, run_of}
use Rattle.world.specs.declared.run_event.RunEvent.TheVariants.{Deliver}
use Rattle.present.specs.Past.{next_number}
use Rattle.present.proofs.Tidied.{then_rests}
use Rattle.present.proofs.Calls.{one_waits, is_addressed, then_holds, end_told}
use Rattle.present.proofs.present.Present.deliver.Goals as goal

pub deliver-requires-clause-waits : goal.deliver-requires-clause-waits
deliver-requires-clause-waits c =
    one_waits c.self.inside.actors c.self.inside.past c.self.invariant.0
    (subst (λ (z : WorldValue). next_number z.events < length (run_of z).sent) (sym c.self.view_is) c.requires)

pub deliver-requires-clause-addressed : goal.deliver-requires-clause-addressed
deliver-requires-clause-addressed c = λ e rest is. is_addressed c.self.inside.actors c.self.inside.past e rest c.self.invariant.0 is

pub invariant_of-self-2 : goal.invariant_of-self-2
invariant_of-self-2 c = (
  then_holds c.self.inside.actors _ c.self.inside.past _ _ c.self.invariant.0 (c.in_ok-ended.ensures.ok c.self.inside.actors.topology c.self.inside.past c.self.invariant.0).0
      c.deliver.ensures.topology c.add_delivery.ensures,
  then_rests c.self.inside.actors c.deliver.new.self c.self.inside.past _ (Deliver (next_number c.self.inside.past)) c.self.invariant.1 tt c.deliver.ensures.topology c.add_delivery.ensures,
)

pub returns-clause-ended : goal.returns-clause-ended
returns-clause-ended c =
    end_told c.args.self.now c.self.inside.actors c.deliver.new.self c.self.inside.past _ _ c.in_ok-ended.ended c.self.view_is c.deliver.ensures.topology c.add_delivery.ensures
    (c.in_ok-ended.ensures.ok c.self.inside.actors.topology c.self.inside.past c.self.invariant.0).1
