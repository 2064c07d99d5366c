use Rattle.std.proofs.Common.{subst, option_map, filter_map, ◌++◌, map, List}
use Rattle.std.specs.Prelude.{option_to_list, Contains, ◌↔◌}
use Rattle.std.specs.Option.{option_copied}
use Rattle.logical_time.specs.Stamps.{WriterValue}
use Rattle.versions.specs.declared.version.Version.{Version}
use Rattle.store.specs.Sight.{named, uncovered_writer}
use Rattle.store.specs.Struck.{ranged, writers_met}
use Rattle.store.proofs.seen.Assembled.{if_ok}
use Rattle.store.proofs.seen.Strikes.{writers_sorted}
use Rattle.store.proofs.striking.writers_under.Goals as goal

pub returns-clause-same : goal.returns-clause-same
returns-clause-same c =
    let d = option_copied c.args.deletion in
    let columns = filter_map (λ s. uncovered_writer d (named s)) c.args.seen.now ++ option_to_list (option_map (λ (v : Version). v.what.writer) d) in
    let met = writers_met c.args.predicate.now c.args.columns.now (map ranged c.args.ranges.now) in
    if_ok c.sorted.result
    (λ all same. writers_sorted all c.in_ok-writers.writers.items columns met
    (λ w. subst (λ (ws : List WriterValue). Contains all w ↔ Contains ws w) c.in_ok-add_met.ensures (same w)) c.in_ok-writers.ensures)
    c.sorted.ensures.same
