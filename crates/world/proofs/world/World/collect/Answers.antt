use Rattle.std.proofs.Common.{arith}
use Rattle.world.proofs.in_code.Held.{collection_holds}
use Rattle.std.proofs.lemmas.Grind.{common_steps}
use Rattle.world.proofs.world.World.collect.Goals as goal

pub invariant_of-self-2 : goal.invariant_of-self-2
invariant_of-self-2 c =
    collection_holds c.self.inside.actors _ c.self.inside.log _ _ c.args.shard c.args.time c.self.invariant c.make_room_for_collection.ensures.same c.in_ok-collect.ensures.ok
    c.collect.ensures.topology c.add_collection.ensures.events c.add_collection.ensures.writes c.add_collection.ensures.delivered

pub invariant_of-self-in_err-collect : goal.invariant_of-self-in_err-collect
invariant_of-self-in_err-collect c = grind (arith, common_steps)

pub returns-clause-refused : goal.returns-clause-refused
returns-clause-refused c = grind (arith, common_steps)

pub returns-clause-same : goal.returns-clause-same
returns-clause-same c = grind (arith, common_steps)

pub returns-clause-taken : goal.returns-clause-taken
returns-clause-taken c = grind (arith, common_steps)

pub returns-in_err-collect-clause-refused : goal.returns-in_err-collect-clause-refused
returns-in_err-collect-clause-refused c = grind (arith, common_steps)

pub returns-in_err-collect-clause-same : goal.returns-in_err-collect-clause-same
returns-in_err-collect-clause-same c = grind (arith, common_steps)

pub returns-in_err-collect-clause-taken : goal.returns-in_err-collect-clause-taken
returns-in_err-collect-clause-taken c = grind (arith, common_steps)

pub returns-then-is_err-clause-refused : goal.returns-then-is_err-clause-refused
returns-then-is_err-clause-refused c = grind (arith, common_steps)

pub returns-then-is_err-clause-same : goal.returns-then-is_err-clause-same
returns-then-is_err-clause-same c = grind (arith, common_steps)

pub returns-then-is_err-clause-taken : goal.returns-then-is_err-clause-taken
returns-then-is_err-clause-taken c = grind (arith, common_steps)
