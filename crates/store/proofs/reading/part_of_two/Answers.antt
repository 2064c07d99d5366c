use Rattle.std.proofs.Common.{◌≡◌, ap, sym, subst, refl, ℕ, List, [], ◌∷◌, filter_map}
use Rattle.std.specs.Option.{option_copied}
use Rattle.slice.specs.declared.predicate.Predicate.TheVariants.{Names}
use Rattle.versions.specs.Chain.{Held}
use Rattle.store.specs.Gathering.{IsLeft}
use Rattle.store.specs.Stored.{Chains}
use Rattle.store.specs.Sight.{seen_at, sight_of}
use Rattle.store.proofs.seen.Gatherings.{gathered_part, each_field}
use Rattle.store.proofs.seen.Sights.{names_seen}
use Rattle.store.proofs.reading.part_of_two.Goals as goal

pub returns-clause-ok : goal.returns-clause-ok
returns-clause-ok c =
    let m = c.args.moment.now in
    let row = c.args.row.now in
    let ns = c.args.first.now ∷ c.args.second.now ∷ [] in
    let listed = c.args.second.now ∷ c.args.first.now ∷ [] in
    let d = option_copied c.seen_deletion-deletion.result in
    let columns : c.row.inside.columns.entries ≡ row.columns = ap (λ (r : Chains). r.columns) c.row.view_is in
    let seen = filter_map (seen_at m row.columns) ns in
    let left : IsLeft d [] seen c.in_ok-found.found = subst (λ (es : List (List ℕ × Held)). IsLeft d _ (filter_map (seen_at m es) ns) c.in_ok-found.found) columns c.in_ok-found.ensures.ok in
    each_field c.into_part.result
    (λ part cs ws o e ordered.
    gathered_part (sight_of m row) (Names listed) part d seen c.in_ok-found.found
    (names_seen m row listed seen (ap (filter_map (seen_at m row.columns)) (sym ordered)))
    c.seen_deletion-deletion.ensures left cs ws o e refl (λ n. refl))
    c.into_part.ensures.columns c.into_part.ensures.same c.into_part.ensures.in_order c.into_part.ensures.evt
