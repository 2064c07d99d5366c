use Rattle.std.proofs.Common.{subst, sym, option_map, filter_map, ◌++◌}
use Rattle.std.specs.Prelude.{option_to_list}
use Rattle.std.specs.Option.{option_copied}
use Rattle.std.specs.List.Sorted.{IsStrictlySortedBy}
use Rattle.logical_time.specs.Stamps.{writer_cmp}
use Rattle.versions.specs.declared.version.Version.{Version}
use Rattle.store.specs.Sight.{HaveSameWriters, named, uncovered_writer}
use Rattle.store.proofs.seen.Assembled.{if_ok}
use Rattle.store.proofs.seen.Gathered.{then_same}
use Rattle.store.proofs.newest.OneWriter.{alone_in_order}
use Rattle.store.proofs.reading.rested_on.Goals as goal

pub returns-in-Some-clause-same : goal.returns-in-Some-clause-same
returns-in-Some-clause-same c =
    let d = option_copied c.args.deletion in
    subst (λ ws. HaveSameWriters ws (filter_map (λ s. uncovered_writer d (named s)) c.args.seen.now ++ option_to_list (option_map (λ (v : Version). v.what.writer) d)))
    (sym c.one.ensures) c.in-Some.ensures

pub returns-in-Some-clause-in_order : goal.returns-in-Some-clause-in_order
returns-in-Some-clause-in_order c = subst (IsStrictlySortedBy writer_cmp) (sym c.one.ensures) (alone_in_order c.in-Some.writer)

pub returns-clause-same : goal.returns-clause-same
returns-clause-same c =
    let d = option_copied c.args.deletion in
    let writers = filter_map (λ s. uncovered_writer d (named s)) c.args.seen.now ++ option_to_list (option_map (λ (v : Version). v.what.writer) d) in
    let found = c.in_ok-writers_of.field-0.items in
    let before : HaveSameWriters c.nearly_sorted.result.items writers = then_same c.nearly_sorted.result.items found writers c.nearly_sorted.ensures c.in_ok-writers_of.ensures in
    if_ok c.sorted.result (λ all same. then_same all c.nearly_sorted.result.items writers same before) c.sorted.ensures.same
