use Rattle.std.proofs.Common.{◌≡◌, ap, subst}
use Rattle.world.specs.World.{WorldValue}
use Rattle.present.specs.declared.actors.Actors.{Actors}
use Rattle.present.specs.AtRest.{StandsAtRest}
use Rattle.present.specs.Held.{held_by_all}
use Rattle.durable.specs.Settled.{DurableValue}
use Rattle.durable.proofs.durable.DurableHoused.holdings.Goals as goal

pub returns : goal.returns
returns g c = subst (λ (v : WorldValue). (a : Actors) × StandsAtRest v.top v.events a × (c.holdings.result ≡ held_by_all a.shards.items)) (ap (λ (d : DurableValue g.row.D.Denot). d.world) c.self.view_is) c.holdings.ensures
