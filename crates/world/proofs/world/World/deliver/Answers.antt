use Rattle.std.proofs.Common.{arith}
use Rattle.world.proofs.in_code.Held.{delivery_holds}
use Rattle.std.proofs.lemmas.Grind.{common_steps}
use Rattle.world.proofs.world.World.deliver.Goals as goal

pub invariant_of-self-2 : goal.invariant_of-self-2
invariant_of-self-2 c =
    delivery_holds c.self.inside.actors _ c.self.inside.log _ _ c.args.number c.self.invariant c.make_room_for_delivery.ensures.same c.in_ok-deliver.ensures.ok
    c.deliver.ensures.topology c.add_delivery.ensures.events c.add_delivery.ensures.writes c.add_delivery.ensures.delivered

pub invariant_of-self-in_err-deliver : goal.invariant_of-self-in_err-deliver
invariant_of-self-in_err-deliver c = grind (arith, common_steps)

pub returns-clause-refused : goal.returns-clause-refused
returns-clause-refused c = grind (arith, common_steps)

pub returns-clause-same : goal.returns-clause-same
returns-clause-same c = grind (arith, common_steps)

pub returns-clause-taken : goal.returns-clause-taken
returns-clause-taken c = grind (arith, common_steps)

pub returns-in_err-deliver-clause-refused : goal.returns-in_err-deliver-clause-refused
returns-in_err-deliver-clause-refused c = grind (arith, common_steps)

pub returns-in_err-deliver-clause-same : goal.returns-in_err-deliver-clause-same
returns-in_err-deliver-clause-same c = grind (arith, common_steps)

pub returns-in_err-deliver-clause-taken : goal.returns-in_err-deliver-clause-taken
returns-in_err-deliver-clause-taken c = grind (arith, common_steps)

pub returns-then-is_err-clause-refused : goal.returns-then-is_err-clause-refused
returns-then-is_err-clause-refused c = grind (arith, common_steps)

pub returns-then-is_err-clause-same : goal.returns-then-is_err-clause-same
returns-then-is_err-clause-same c = grind (arith, common_steps)

pub returns-then-is_err-clause-taken : goal.returns-then-is_err-clause-taken
returns-then-is_err-clause-taken c = grind (arith, common_steps)
