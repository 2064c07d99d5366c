use Rattle.std.proofs.Common.{rules, ◌≡◌, ◌∙◌, ap, sym, subst, [], List, map, filter, not, IfOk, None, arith}
use Rattle.std.specs.Option.{option_copied}
use Rattle.std.proofs.lemmas.List.{nil_from_length}
use Rattle.std.proofs.lemmas.Bool.Decides.{nat_tests}
use Rattle.std.specs.List.{list_any}
use Rattle.std.specs.List.Sorted.{IsStrictlySortedBy}
use Rattle.store.specs.declared.sight.Seen.{Seen}
use Rattle.store.specs.declared.striking.Standing.{Standing}
use Rattle.store.specs.Stored.{name_cmp}
use Rattle.store.specs.Sight.{NamedVersion, named, sight_of, AreAskedFor}
use Rattle.store.specs.Struck.{ranged, ranges_seen, standing, strikes, IsMadeUnder}
use Rattle.store.proofs.lists.Lists.{map_of_map}
use Rattle.store.proofs.seen.Assembled.{if_ok}
use Rattle.store.proofs.seen.Strikes.{under_none, under_seen}
use Rattle.store.proofs.striking.part_under.Goals as goal

pub returns-then-is_empty-clause-ok : goal.returns-then-is_empty-clause-ok
returns-then-is_empty-clause-ok c =
    let f = sight_of c.args.moment.now c.args.row.now in
    let deletion : option_copied c.seen_deletion-deletion.result ≡ f None = search rules in
    let found : map ranged c.add_those_of.new.found.items ≡ ranges_seen c.args.moment.now c.args.row.now = search rules in
    let empty : c.add_those_of.new.found.items ≡ [] = nil_from_length c.add_those_of.new.found.items (search (rules, arith, nat_tests)) in
    if_ok c.part_of.result (λ part is. under_none f (ranges_seen c.args.moment.now c.args.row.now) c.args.predicate.now part (sym found ∙ ap (map ranged) empty) is) c.part_of.ensures.ok

pub returns-clause-ok : goal.returns-clause-ok
returns-clause-ok c =
    let f = sight_of c.args.moment.now c.args.row.now in
    let p = c.args.predicate.now in
    let d = option_copied c.seen_deletion-deletion.result in
    let deletion : d ≡ f None = search rules in
    let xs = map ranged c.deref-3.result.now in
    let found : map ranged c.add_those_of.new.found.items ≡ ranges_seen c.args.moment.now c.args.row.now = search rules in
    let stands : xs ≡ ranges_seen c.args.moment.now c.args.row.now = ap (λ (ss : List Standing). map ranged ss) c.deref-3.ensures.value ∙ found in
    if_ok c.made_under.result
    (λ part is. under_seen f xs (ranges_seen c.args.moment.now c.args.row.now) p part (map named c.in_ok-seen.seen.items) d c.in_ok-seen.ensures.ok deletion stands
    (λ sorted. is (subst (IsStrictlySortedBy name_cmp) (map_of_map (λ (s : NamedVersion). s.0) named c.in_ok-seen.seen.items) sorted)))
    (subst (λ (ss : List Seen). IfOk c.made_under.result (λ part. IsStrictlySortedBy name_cmp (map (λ s. s.name.now) ss) → AreAskedFor p (map named ss) → IsMadeUnder d xs (map named ss) p part)) c.deref-4.ensures.value c.made_under.ensures.ok)

pub unstruck-requires : goal.unstruck-requires
unstruck-requires c =
    let d = option_copied c.seen_deletion-deletion.result in
    let first : map ranged c.add_those_of.new.found.items ≡ standing c.args.moment.now d c.args.row.now.ranges.ranges = search rules in
    ap (λ (ss : List Standing). map ranged ss) c.deref.ensures.value ∙ first

pub made_under-requires : goal.made_under-requires
made_under-requires c =
    let ranges : c.deref.result.now ≡ c.deref-3.result.now = c.deref.ensures.value ∙ sym c.deref-3.ensures.value in
    let seen : c.deref-2.result.now ≡ c.deref-4.result.now = c.deref-2.ensures.value ∙ sym c.deref-4.ensures.value in
    c.deref-5.ensures.value
    ∙ c.in_ok-bare.ensures.ok
    ∙ ap (λ (ss : List Seen). filter (λ s. not (list_any (λ x. strikes x.range.now (named s)) c.deref.result.now)) ss) seen
    ∙ ap (λ (rs : List Standing). filter (λ s. not (list_any (λ x. strikes x.range.now (named s)) rs)) c.deref-4.result.now) ranges
