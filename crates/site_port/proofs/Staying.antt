-- What is kept of a site stays.
use Rattle.std.proofs.Common.{◌≡◌, ◌∙◌, refl, ap}
use Rattle.durable_site.specs.Kept.{DurableSiteValue, is_kept}
use Rattle.site_port.specs.Port.{SessionsValue, kept_of, StaysKept}

pub stays_then : {D : Type 0} (a b c : DurableSiteValue D) → StaysKept a b → StaysKept b c → StaysKept a c
stays_then a b c f g = (g.0 ∙ f.0, g.1 ∙ f.1)

-- of its sessions
pub stays_kept : {D : Type 0} (a b : SessionsValue D) → StaysKept a.site b.site → kept_of b ≡ kept_of a
stays_kept a b (kept, identity) = ap (λ k. (k, b.site.identity)) kept ∙ ap (λ i. (is_kept a.site, i)) identity
