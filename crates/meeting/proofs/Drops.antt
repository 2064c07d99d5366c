-- What is kept for a site, without some of the first.
use Rattle.std.proofs.Common.{◌≡◌, ◌∙◌, ◌⊎◌, inl, inr, ◌<◌, ◌≤◌, ℕ, ◌+◌, ◌-◌, max, drop, length, ap, sym, subst, arith}
use Rattle.std.proofs.lemmas.List.{drop-drop, length-drop}
use Rattle.std.proofs.lemmas.Bool.{cases_lt}
use Rattle.peers.specs.Ends.{OutboundValue, next_of, acknowledged}
use Rattle.meeting.specs.Peers.{HasDropped}

-- none of them
pub drops_none : (o u : OutboundValue) → u ≡ o → HasDropped o u
drops_none o u is =
    let e : 0 ≡ o.first - o.first = omega arith in
    subst (λ (v : OutboundValue). HasDropped o v) (sym is) (omega arith, omega arith, ap (λ (n : ℕ). drop n o.kept) e)

-- those below a number that was given
drops_below : (below : ℕ) (o : OutboundValue) → below ≤ next_of o → HasDropped o (acknowledged below o)
drops_below below o le =
    let e : below - o.first ≡ max o.first below - o.first = omega arith in
    (omega arith, omega arith, ap (λ (n : ℕ). drop n o.kept) e)

-- those of which the other end told
pub drops_told : (below : ℕ) (o u : OutboundValue) → (below ≤ next_of o → u ≡ acknowledged below o) → (next_of o < below → u ≡ o) → HasDropped o u
drops_told below o u heard stranger = told (cases_lt (next_of o) below) where
  told : (next_of o < below) ⊎ (below ≤ next_of o) → HasDropped o u
  told (inl lt) = drops_none o u (stranger lt)
  told (inr le) = subst (λ (v : OutboundValue). HasDropped o v) (sym (heard le)) (drops_below below o le)

-- some, and then more
pub drops_more : (o u v : OutboundValue) → HasDropped o u → HasDropped u v → HasDropped o v
drops_more o u v (later, within, kept) (later', within', kept') =
    let long : length u.kept ≡ length o.kept - (u.first - o.first) = ap length kept ∙ length-drop (u.first - o.first) o.kept in
    let sum : (u.first - o.first) + (v.first - u.first) ≡ v.first - o.first = omega arith in (
      omega arith,
      omega arith,
      kept' ∙ ap (drop (v.first - u.first)) kept ∙ drop-drop (v.first - u.first) (u.first - o.first) o.kept ∙ ap (λ (n : ℕ). drop n o.kept) sum,
    )
