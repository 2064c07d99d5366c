-- The homes of the sessions of sites, site by site.
use Rattle.std.proofs.Common.{◌≡◌, ◌∙◌, ℕ, suc, ◌+◌, ◌<◌, List, [], ◌∷◌, ◌++◌, length, get_or, map, take, replicate, ap, sym, append_assoc, arith, rules}
use Rattle.std.proofs.lemmas.List.{length-map, length-take, map_more}
use Rattle.sites_file.specs.Sites.{SiteValue, site_seen, homes_from}
use Rattle.sites_file.specs.declared.reading.SiteAt.{SiteAt}

-- one more site
homes_snoc : (dc at : ℕ) (vs : List SiteValue) (v : SiteValue) → at ≡ dc + length vs → homes_from dc (vs ++ v ∷ []) ≡ homes_from dc vs ++ replicate v.sessions at
homes_snoc dc at [] v same = search rules
homes_snoc dc at (u ∷ vs) v same = ap (λ hs. replicate u.sessions dc ++ hs) (homes_snoc (suc dc) at vs v (omega arith)) ∙ sym (append_assoc (replicate u.sessions dc) (homes_from (suc dc) vs) (replicate v.sessions at))

pub homes_more : (ss : List SiteAt) (i : ℕ) (s : SiteAt) → i < length ss
    → homes_from 0 (map site_seen (take (i + 1) ss)) ≡ homes_from 0 (map site_seen (take i ss)) ++ replicate (get_or ss i s).sessions i
homes_more ss i s lt =
    rw (map_more site_seen ss i s lt) (homes_snoc 0 i (map site_seen (take i ss)) (site_seen (get_or ss i s)) (simp (length-map, length-take) (omega arith)))
