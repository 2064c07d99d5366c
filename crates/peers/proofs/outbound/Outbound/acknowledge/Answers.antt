use Rattle.std.proofs.Common.{refl}
use Rattle.peers.proofs.Outbounds.{acknowledged_kept}
use Rattle.peers.proofs.outbound.Outbound.acknowledge.Goals as goal

pub returns-clause-heard : goal.returns-clause-heard
returns-clause-heard c =
    rw (← c.self.view_is) (λ le. (refl, acknowledged_kept c.self.inside.first c.args.below c.self.inside.kept.items c.forget.new.kept.items c.if-below-self.false c.forget.ensures.kept))
