use Rattle.world.proofs.promised.Promised as promised
use Rattle.world.proofs.world.World.transcript.Goals as goal

pub returns-clause-one_table : goal.returns-clause-one_table
returns-clause-one_table c = promised.one_table c.args.self.now (promised.is_of c.args.self.now c.self.inside.actors c.self.inside.log c.self.invariant c.self.view_is)

pub returns-clause-stays : goal.returns-clause-stays
returns-clause-stays c = promised.stays c.args.self.now (promised.is_of c.args.self.now c.self.inside.actors c.self.inside.log c.self.invariant c.self.view_is)

pub returns-clause-past : goal.returns-clause-past
returns-clause-past c = promised.past c.args.self.now (promised.is_of c.args.self.now c.self.inside.actors c.self.inside.log c.self.invariant c.self.view_is)

pub returns-clause-fresh : goal.returns-clause-fresh
returns-clause-fresh c = promised.fresh c.args.self.now (promised.is_of c.args.self.now c.self.inside.actors c.self.inside.log c.self.invariant c.self.view_is)

pub returns-clause-above : goal.returns-clause-above
returns-clause-above c = promised.above c.args.self.now (promised.is_of c.args.self.now c.self.inside.actors c.self.inside.log c.self.invariant c.self.view_is)

pub returns-clause-given_up : goal.returns-clause-given_up
returns-clause-given_up c = promised.given_up c.args.self.now (promised.is_of c.args.self.now c.self.inside.actors c.self.inside.log c.self.invariant c.self.view_is)

pub returns-clause-homes : goal.returns-clause-homes
returns-clause-homes c = promised.homes c.args.self.now (promised.is_of c.args.self.now c.self.inside.actors c.self.inside.log c.self.invariant c.self.view_is)

pub returns-clause-arrived : goal.returns-clause-arrived
returns-clause-arrived c = promised.arrived c.args.self.now (promised.is_of c.args.self.now c.self.inside.actors c.self.inside.log c.self.invariant c.self.view_is)
