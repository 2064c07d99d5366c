use Rattle.std.proofs.Common.{ap}
use Rattle.versions.specs.Chain.{Held}
use Rattle.versions.specs.Ends.{versions_of}
use Rattle.versions.proofs.Held.{held_but_removed}
use Rattle.versions.proofs.chain.Chain.remove.Goals as goal

pub returns-clause-others : goal.returns-clause-others
returns-clause-others c = λ w.
    rw (← ap (λ (h : Held). h.versions) c.self.view_is, c.take_out.ensures.left, c.take_out.ensures.removed)
    (held_but_removed (versions_of c.self.inside.entries.items) c.args.place w)
