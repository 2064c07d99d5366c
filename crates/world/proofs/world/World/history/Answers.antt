use Rattle.store.proofs.seen.Assembled.{if_ok}
use Rattle.world.proofs.histories.AskedFor.{listed}
use Rattle.world.proofs.promised.Promised as promised
use Rattle.world.proofs.world.World.history.Goals as goal

pub returns-clause-listed : goal.returns-clause-listed
returns-clause-listed c =
    listed c.args.self.now c.self.inside.actors c.self.inside.log c.args.dc c.home.result c.as_slice.result.now c.as_slice-2.result.now c.history.result c.self.invariant c.self.view_is
    c.home.ensures c.as_slice.ensures.value c.as_slice-2.ensures.value c.history.ensures.ok

pub returns-clause-tells : goal.returns-clause-tells
returns-clause-tells c =
    if_ok c.history.result
    (λ h is. promised.tells c.args.self.now (promised.is_of c.args.self.now c.self.inside.actors c.self.inside.log c.self.invariant c.self.view_is) c.args.dc h is)
    (returns-clause-listed c)

pub returns-clause-grows : goal.returns-clause-grows
returns-clause-grows c = promised.grows c.args.self.now (promised.is_of c.args.self.now c.self.inside.actors c.self.inside.log c.self.invariant c.self.view_is)

pub returns-clause-causes : goal.returns-clause-causes
returns-clause-causes c = promised.causes c.args.self.now (promised.is_of c.args.self.now c.self.inside.actors c.self.inside.log c.self.invariant c.self.view_is)
