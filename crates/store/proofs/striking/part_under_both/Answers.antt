use Rattle.std.proofs.Common.{rules, ◌≡◌, ◌∙◌, ap, sym, subst, [], ◌++◌, List, map, IfOk, None, Option, arith, filter, not, refl}
use Rattle.std.specs.Option.{option_copied}
use Rattle.std.proofs.lemmas.List.{nil_from_length}
use Rattle.std.proofs.lemmas.Bool.Decides.{nat_tests}
use Rattle.std.specs.List.{list_any}
use Rattle.std.specs.List.Sorted.{IsStrictlySortedBy}
use Rattle.versions.specs.declared.version.Version.{Version}
use Rattle.store.specs.declared.sight.Seen.{Seen}
use Rattle.store.specs.declared.striking.Standing.{Standing}
use Rattle.store.specs.Stored.{name_cmp}
use Rattle.store.specs.Sight.{NamedVersion, named, sight_of, newer_seen, laid_over, merged, AreAskedFor}
use Rattle.store.specs.Struck.{ranged, standing, ranges_over, IsMadeUnder, strikes}
use Rattle.store.proofs.lists.Lists.{map_of_map}
use Rattle.store.proofs.seen.Assembled.{if_ok}
use Rattle.store.proofs.laid_over.Merged.{merged_seen}
use Rattle.store.proofs.seen.Strikes.{under_none, under_seen, standing_both}
use Rattle.store.proofs.striking.part_under_both.Goals as goal

pub returns-then-is_empty-clause-ok : goal.returns-then-is_empty-clause-ok
returns-then-is_empty-clause-ok c =
    let m = c.args.moment.now in
    let f = sight_of m c.args.row.now in
    let g = sight_of m c.args.over.now in
    let one : option_copied c.seen_deletion.result ≡ f None = search rules in
    let other : option_copied c.seen_deletion-2.result ≡ g None = search rules in
    let deletion : option_copied c.newer_seen-deletion.result ≡ laid_over f g None =
    c.newer_seen-deletion.ensures
    ∙ ap (λ (o : Option Version). newer_seen o (option_copied c.seen_deletion-2.result)) one
    ∙ ap (newer_seen (f None)) other in
    let first : map ranged c.add_those_of.new.found.items ≡ standing m (option_copied c.newer_seen-deletion.result) c.args.row.now.ranges.ranges = search rules in
    let second : map ranged c.add_those_of-2.new.found.items ≡ map ranged c.add_those_of.new.found.items ++ standing m (option_copied c.newer_seen-deletion.result) c.args.over.now.ranges.ranges = search rules in
    let found : map ranged c.add_those_of-2.new.found.items ≡ ranges_over m c.args.row.now c.args.over.now =
    second ∙ standing_both m (option_copied c.newer_seen-deletion.result) (laid_over f g None) c.args.row.now.ranges.ranges c.args.over.now.ranges.ranges (map ranged c.add_those_of.new.found.items) first deletion in
    let empty : c.add_those_of-2.new.found.items ≡ [] = nil_from_length c.add_those_of-2.new.found.items (search (rules, arith, nat_tests)) in
    if_ok c.part_over.result
    (λ part is. under_none (laid_over f g) (ranges_over m c.args.row.now c.args.over.now) c.args.predicate.now part (sym found ∙ ap (map ranged) empty) is)
    c.part_over.ensures.ok

pub returns-clause-ok : goal.returns-clause-ok
returns-clause-ok c =
    let m = c.args.moment.now in
    let f = sight_of m c.args.row.now in
    let g = sight_of m c.args.over.now in
    let p = c.args.predicate.now in
    let below = map named c.in_ok-below.below.items in
    let above = map named c.in_ok-above.above.items in
    let seen = map named c.in_ok-seen.seen.items in
    let is : seen ≡ merged below above =
    c.in_ok-seen.ensures
    ∙ ap (λ (ss : List Seen). merged (map named ss) (map named c.deref-2.result.now)) c.deref.ensures.value
    ∙ ap (λ (ss : List Seen). merged below (map named ss)) c.deref-2.ensures.value in
    let d = option_copied c.newer_seen-deletion.result in
    let one : option_copied c.seen_deletion.result ≡ f None = search rules in
    let other : option_copied c.seen_deletion-2.result ≡ g None = search rules in
    let deletion : d ≡ laid_over f g None =
    c.newer_seen-deletion.ensures
    ∙ ap (λ (o : Option Version). newer_seen o (option_copied c.seen_deletion-2.result)) one
    ∙ ap (newer_seen (f None)) other in
    let first : map ranged c.add_those_of.new.found.items ≡ standing m d c.args.row.now.ranges.ranges = search rules in
    let second : map ranged c.add_those_of-2.new.found.items ≡ map ranged c.add_those_of.new.found.items ++ standing m d c.args.over.now.ranges.ranges = search rules in
    let found : map ranged c.add_those_of-2.new.found.items ≡ ranges_over m c.args.row.now c.args.over.now =
    second ∙ standing_both m d (laid_over f g None) c.args.row.now.ranges.ranges c.args.over.now.ranges.ranges (map ranged c.add_those_of.new.found.items) first deletion in
    let xs = map ranged c.deref-5.result.now in
    let stands : xs ≡ ranges_over m c.args.row.now c.args.over.now = ap (λ (ss : List Standing). map ranged ss) c.deref-5.ensures.value ∙ found in
    if_ok c.made_under.result
    (λ part made. under_seen (laid_over f g) xs (ranges_over m c.args.row.now c.args.over.now) p part seen d (merged_seen f g p below above seen c.in_ok-below.ensures.ok c.in_ok-above.ensures.ok is) deletion stands
    (λ sorted. made (subst (IsStrictlySortedBy name_cmp) (map_of_map (λ (s : NamedVersion). s.0) named c.in_ok-seen.seen.items) sorted)))
    (subst (λ (ss : List Seen). IfOk c.made_under.result (λ part. IsStrictlySortedBy name_cmp (map (λ s. s.name.now) ss) → AreAskedFor p (map named ss) → IsMadeUnder d xs (map named ss) p part)) c.deref-6.ensures.value c.made_under.ensures.ok)

pub unstruck_in_both-requires : goal.unstruck_in_both-requires
unstruck_in_both-requires c =
    let m = c.args.moment.now in
    let d = option_copied c.newer_seen-deletion.result in
    let first : map ranged c.add_those_of.new.found.items ≡ standing m d c.args.row.now.ranges.ranges = search rules in
    let second : map ranged c.add_those_of-2.new.found.items ≡ map ranged c.add_those_of.new.found.items ++ standing m d c.args.over.now.ranges.ranges = search rules in
    ap (λ (ss : List Standing). map ranged ss) c.deref-3.ensures.value
    ∙ second
    ∙ standing_both m d d c.args.row.now.ranges.ranges c.args.over.now.ranges.ranges (map ranged c.add_those_of.new.found.items) first refl

pub made_under-requires : goal.made_under-requires
made_under-requires c =
    let ranges : c.deref-3.result.now ≡ c.deref-5.result.now = c.deref-3.ensures.value ∙ sym c.deref-5.ensures.value in
    let seen : c.deref-4.result.now ≡ c.deref-6.result.now = c.deref-4.ensures.value ∙ sym c.deref-6.ensures.value in
    c.deref-7.ensures.value
    ∙ c.in_ok-bare.ensures.ok
    ∙ ap (λ (ss : List Seen). filter (λ s. not (list_any (λ x. strikes x.range.now (named s)) c.deref-3.result.now)) ss) seen
    ∙ ap (λ (rs : List Standing). filter (λ s. not (list_any (λ x. strikes x.range.now (named s)) rs)) c.deref-6.result.now) ranges
