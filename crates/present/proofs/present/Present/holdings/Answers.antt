use Rattle.std.proofs.Common.{subst}
use Rattle.world.specs.World.{WorldValue}
use Rattle.present.specs.AtRest.{StandsAtRest}
use Rattle.present.proofs.present.Present.holdings.Goals as goal

pub returns : goal.returns
returns c = (c.self.inside.actors, subst (λ (v : WorldValue). StandsAtRest v.top v.events c.self.inside.actors) c.self.view_is c.self.invariant, c.holdings.ensures)
