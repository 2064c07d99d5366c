use Rattle.std.proofs.Common.{rules, ◌≡◌, subst, List, map, IfOk, None}
use Rattle.std.specs.Option.{option_copied}
use Rattle.store.specs.declared.sight.Seen.{Seen}
use Rattle.std.specs.List.Sorted.{IsStrictlySortedBy}
use Rattle.store.specs.Stored.{name_cmp}
use Rattle.store.specs.Sight.{NamedVersion, named, sight_of, AreAskedFor, IsMadeOf}
use Rattle.store.proofs.lists.Lists.{map_of_map}
use Rattle.store.proofs.seen.Assembled.{if_ok, made_seen}
use Rattle.store.proofs.reading.part_of.Goals as goal

pub returns-clause-ok : goal.returns-clause-ok
returns-clause-ok c =
    let f = sight_of c.args.moment.now c.args.row.now in
    let p = c.args.predicate.now in
    let d = option_copied c.seen_deletion.result in
    let deletion : d ≡ f None = search rules in
    if_ok c.made_of.result (λ part is. made_seen f p part (map named c.in_ok-seen.seen.items) d c.in_ok-seen.ensures.ok deletion (λ sorted. is (subst (IsStrictlySortedBy name_cmp) (map_of_map (λ (s : NamedVersion). s.0) named c.in_ok-seen.seen.items) sorted)))
    (subst (λ (ss : List Seen). IfOk c.made_of.result (λ part. IsStrictlySortedBy name_cmp (map (λ s. s.name.now) ss) → AreAskedFor p (map named ss) → IsMadeOf d (map named ss) p part)) c.deref.ensures.value c.made_of.ensures.ok)
