use Rattle.std.proofs.Common.{◌≡◌, ap, subst, ℕ, List, [], map, filter_map}
use Rattle.std.specs.Option.{option_copied}
use Rattle.std.specs.List.Sorted.{IsStrictlySortedBy}
use Rattle.versions.specs.Chain.{Held}
use Rattle.store.specs.Gathering.{IsLeft}
use Rattle.store.specs.Stored.{Chains, name_cmp}
use Rattle.store.specs.Sight.{seen_entry}
use Rattle.store.proofs.seen.Gatherings.{each_field, whole_part}
use Rattle.store.proofs.reading.part_whole.Goals as goal

pub returns-clause-ok : goal.returns-clause-ok
returns-clause-ok c =
    let m = c.args.moment.now in
    let row = c.args.row.now in
    let d = option_copied c.seen_deletion-deletion.result in
    let g = c.in_ok-found.found in
    let columns : c.row.inside.columns.entries ≡ row.columns = ap (λ (r : Chains). r.columns) c.row.view_is in
    each_field c.into_part.result
    (λ part cs ws o e n less.
    whole_part m row n part d g
    (subst (λ (es : List (List ℕ × Held)). IsStrictlySortedBy name_cmp (map (λ e. e.0) es)) columns c.in_ok-found.ensures.ordered)
    less c.seen_deletion-deletion.ensures
    (subst (λ (es : List (List ℕ × Held)). IsLeft d [] (filter_map (seen_entry m) es) g) columns c.in_ok-found.ensures.ok)
    cs ws o e)
    c.into_part.ensures.columns c.into_part.ensures.same c.into_part.ensures.in_order c.into_part.ensures.evt
