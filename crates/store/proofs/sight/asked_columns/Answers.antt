use Rattle.std.proofs.Common.{rules, ◌≡◌, ◌∙◌, ap, sym, subst, refl, ℕ, List, map, filter, filter_map, true, false}
use Rattle.slice.specs.declared.predicate.Predicate.{Predicate}
use Rattle.slice.specs.declared.predicate.Predicate.TheVariants.{Range}
use Rattle.std.specs.List.Sorted.{IsStrictlySortedBy}
use Rattle.slice.specs.Slice.{is_between}
use Rattle.slice.specs.Live.{in_name_order}
use Rattle.versions.specs.Chain.{Held}
use Rattle.store.specs.Stored.{Chains, name_cmp}
use Rattle.store.specs.Sight.{named, seen_at, seen_entry, sight_of, AreSeen, is_backwards}
use Rattle.store.proofs.seen.Sights.{names_seen, range_seen}
use Rattle.store.proofs.sight.asked_columns.Goals as goal

pub returns-in_ok-seen_by_names-in-Names-clause-ok : goal.returns-in_ok-seen_by_names-in-Names-clause-ok
returns-in_ok-seen_by_names-in-Names-clause-ok c =
    let seen = map named c.in_ok-seen_by_names-in-Names.field-0.items in
    let is : seen ≡ filter_map (seen_at c.args.moment.now c.args.row.now.columns) (in_name_order c.in-Names.names) = search rules in
    subst (λ (p : Predicate). AreSeen (sight_of c.args.moment.now c.args.row.now) p seen) (sym c.in-Names.is) (names_seen c.args.moment.now c.args.row.now c.in-Names.names seen is)

pub returns-in_ok-seen_between-in-Range-default-default-true-default-clause-ok : goal.returns-in_ok-seen_between-in-Range-default-default-true-default-clause-ok
returns-in_ok-seen_between-in-Range-default-default-true-default-clause-ok c =
    let range = c.in-Range-default-default-true-default in
    let called = c.in_ok-seen_between-in-Range-default-default-true-default in
    let row = c.args.row.now in
    let asks : c.args.predicate.now ≡ Range range.start range.finish true range.count = search rules in
    let columns : c.row.inside.columns.entries ≡ row.columns = ap (λ (r : Chains). r.columns) c.row.view_is in
    let seen = map named called.field-0.items in
    let is : seen ≡ filter_map (seen_entry c.args.moment.now) (filter (λ e. is_between range.finish range.start e.0) row.columns) = called.ensures.between ∙ ap (λ (es : List (List ℕ × Held)). filter_map (seen_entry c.args.moment.now) (filter (λ e. is_between range.finish range.start e.0) es)) columns in
    let sorted : is_backwards range.finish range.start ≡ false → IsStrictlySortedBy name_cmp (map (λ e. e.0) row.columns) = λ onwards. subst (λ (es : List (List ℕ × Held)). IsStrictlySortedBy name_cmp (map (λ e. e.0) es)) columns (called.ensures.ordered onwards) in
    subst (λ (p : Predicate). AreSeen (sight_of c.args.moment.now row) p seen) (sym asks) (range_seen c.args.moment.now row (Range range.start range.finish true range.count) range.finish range.start seen (λ n. refl) sorted is)

pub returns-in_ok-seen_between-in-Range-default-default-false-default-clause-ok : goal.returns-in_ok-seen_between-in-Range-default-default-false-default-clause-ok
returns-in_ok-seen_between-in-Range-default-default-false-default-clause-ok c =
    let range = c.in-Range-default-default-false-default in
    let called = c.in_ok-seen_between-in-Range-default-default-false-default in
    let row = c.args.row.now in
    let asks : c.args.predicate.now ≡ Range range.start range.finish false range.count = search rules in
    let columns : c.row.inside.columns.entries ≡ row.columns = ap (λ (r : Chains). r.columns) c.row.view_is in
    let seen = map named called.field-0.items in
    let is : seen ≡ filter_map (seen_entry c.args.moment.now) (filter (λ e. is_between range.start range.finish e.0) row.columns) = called.ensures.between ∙ ap (λ (es : List (List ℕ × Held)). filter_map (seen_entry c.args.moment.now) (filter (λ e. is_between range.start range.finish e.0) es)) columns in
    let sorted : is_backwards range.start range.finish ≡ false → IsStrictlySortedBy name_cmp (map (λ e. e.0) row.columns) = λ onwards. subst (λ (es : List (List ℕ × Held)). IsStrictlySortedBy name_cmp (map (λ e. e.0) es)) columns (called.ensures.ordered onwards) in
    subst (λ (p : Predicate). AreSeen (sight_of c.args.moment.now row) p seen) (sym asks) (range_seen c.args.moment.now row (Range range.start range.finish false range.count) range.start range.finish seen (λ n. refl) sorted is)
