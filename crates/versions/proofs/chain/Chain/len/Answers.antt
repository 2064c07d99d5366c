use Rattle.std.proofs.Common.{◌∙◌, ap, sym}
use Rattle.versions.specs.Chain.{Held}
use Rattle.versions.proofs.Found.{versions_long}
use Rattle.versions.proofs.chain.Chain.len.Goals as goal

pub returns : goal.returns
returns c = rw (← ap (λ (h : Held). h.versions) c.self.view_is) (c.len.ensures.value ∙ sym (versions_long c.self.inside.entries.items))
