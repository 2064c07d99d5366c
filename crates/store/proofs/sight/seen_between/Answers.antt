use Rattle.std.proofs.Common.{rules, ◌≡◌, ◌∙◌, ap, sym, List, ◌++◌, map, filter_map, true, false}
use Rattle.std.specs.BTreeMap.Range.{entries_between}
use Rattle.slice.specs.Slice.{is_between}
use Rattle.store.specs.declared.sight.Seen.{Seen}
use Rattle.store.specs.Stored.{name_cmp}
use Rattle.store.specs.Sight.{named, seen_entry, is_backwards, bound_at}
use Rattle.store.proofs.lists.Bounds.{forward, in_range, none_between}
use Rattle.store.proofs.seen.Sights.{none_kept}
use Rattle.store.proofs.sight.seen_between.Goals as goal

pub returns-then-is_backwards-clause-between : goal.returns-then-is_backwards-clause-between
returns-then-is_backwards-clause-between c =
    let backwards : is_backwards c.args.low.now c.args.high.now ≡ true = search rules in
    ap (λ (ss : List Seen). map named ss) c.in_ok-seen.ensures.items
    ∙ sym (ap (filter_map (seen_entry c.args.moment.now)) (none_kept (is_between c.args.low.now c.args.high.now) (none_between c.args.low.now c.args.high.now backwards) c.args.columns.now.entries))

pub range-name-items-requires : goal.range-name-items-requires
range-name-items-requires c =
    let onwards : is_backwards c.args.low.now c.args.high.now ≡ false = search rules in
    rw (c.bound_of.ensures, c.bound_of-2.ensures) (forward c.args.low.now c.args.high.now onwards)

pub loop-name-init : goal.loop-name-init
loop-name-init c =
    let es = c.args.columns.now.entries in
    let between : c.range-name-items.result ≡ entries_between name_cmp (bound_at c.args.low.now) (bound_at c.args.high.now) es = search rules in
    ap (λ (ss : List Seen). map named ss ++ filter_map (seen_entry c.args.moment.now) c.into_iter-name-iterator.result) c.in_ok-seen.ensures.items
    ∙ ap (filter_map (seen_entry c.args.moment.now)) (c.into_iter-name-iterator.ensures.into_iter_gives ∙ between ∙ in_range c.args.low.now c.args.high.now es)
