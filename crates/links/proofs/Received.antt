-- What a link has taken, and one more.
use Rattle.std.proofs.Common.{◌≡◌, ℕ, List, [], ◌∷◌, ◌++◌, map, refl, ap}
use Rattle.messages.specs.declared.envelope.Envelope.{Envelope}
use Rattle.links.specs.Links.{readdressed}

pub received_more : (from to : ℕ) (es : List Envelope) (e : Envelope)
    → map (readdressed from to) (es ++ e ∷ []) ≡ map (readdressed from to) es ++ readdressed from to e ∷ []
received_more from to [] e = refl
received_more from to (x ∷ es) e = ap (λ ys. readdressed from to x ∷ ys) (received_more from to es e)
