use Rattle.std.proofs.Common.{rules, ◌≡◌, ◌∙◌, ap, subst, List, map, IfOk, None, Option}
use Rattle.std.specs.Option.{option_copied}
use Rattle.versions.specs.declared.version.Version.{Version}
use Rattle.store.specs.declared.sight.Seen.{Seen}
use Rattle.std.specs.List.Sorted.{IsStrictlySortedBy}
use Rattle.store.specs.Stored.{name_cmp}
use Rattle.store.specs.Sight.{NamedVersion, named, sight_of, newer_seen, laid_over, merged, AreAskedFor, IsMadeOf}
use Rattle.store.proofs.lists.Lists.{map_of_map}
use Rattle.store.proofs.seen.Assembled.{if_ok, made_seen}
use Rattle.store.proofs.laid_over.Merged.{merged_seen}
use Rattle.store.proofs.reading.part_over.Goals as goal

pub returns-clause-ok : goal.returns-clause-ok
returns-clause-ok c =
    let f = sight_of c.args.moment.now c.args.row.now in
    let g = sight_of c.args.moment.now c.args.over.now in
    let p = c.args.predicate.now in
    let below = map named c.in_ok-below.below.items in
    let above = map named c.in_ok-above.above.items in
    let seen = map named c.in_ok-seen.seen.items in
    let is : seen ≡ merged below above =
    c.in_ok-seen.ensures
    ∙ ap (λ (ss : List Seen). merged (map named ss) (map named c.deref-2.result.now)) c.deref.ensures.value
    ∙ ap (λ (ss : List Seen). merged below (map named ss)) c.deref-2.ensures.value in
    let d = option_copied c.newer_seen-deletion.result in
    let one : option_copied c.seen_deletion.result ≡ f None = search rules in
    let other : option_copied c.seen_deletion-2.result ≡ g None = search rules in
    let deletion : d ≡ laid_over f g None =
    c.newer_seen-deletion.ensures
    ∙ ap (λ (o : Option Version). newer_seen o (option_copied c.seen_deletion-2.result)) one
    ∙ ap (newer_seen (f None)) other in
    if_ok c.made_of.result
    (λ part made. made_seen (laid_over f g) p part seen d (merged_seen f g p below above seen c.in_ok-below.ensures.ok c.in_ok-above.ensures.ok is) deletion (λ sorted. made (subst (IsStrictlySortedBy name_cmp) (map_of_map (λ (s : NamedVersion). s.0) named c.in_ok-seen.seen.items) sorted)))
    (subst (λ (ss : List Seen). IfOk c.made_of.result (λ part. IsStrictlySortedBy name_cmp (map (λ s. s.name.now) ss) → AreAskedFor p (map named ss) → IsMadeOf d (map named ss) p part)) c.deref-3.ensures.value c.made_of.ensures.ok)
