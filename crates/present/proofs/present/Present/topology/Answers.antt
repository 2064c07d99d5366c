use Rattle.present.proofs.Kept.{promises_are_kept}
use Rattle.present.proofs.present.Present.topology.Goals as goal

pub returns-clause-promises : goal.returns-clause-promises
returns-clause-promises c = promises_are_kept c.args.self.now c.self.inside.actors c.self.inside.past c.self.invariant c.self.view_is
