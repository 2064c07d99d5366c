use Rattle.std.proofs.Common.{rules, ◌≡◌, ◌∙◌, ap, sym, subst, refl, List, ◌++◌, max, map, filter, filter_map, option_map}
use Rattle.std.specs.Prelude.{option_to_list}
use Rattle.std.specs.Option.{option_copied}
use Rattle.slice.specs.Rests.{is_within}
use Rattle.slice.specs.Slice.{AreAsked, first_of_walk, slice_of}
use Rattle.slice.specs.declared.column.Column.{Column}
use Rattle.slice.proofs.Selected.{cut_of_asked}
use Rattle.versions.specs.declared.version.Version.{Version}
use Rattle.store.specs.declared.part.Part.{Part}
use Rattle.store.specs.declared.sight.Seen.{Seen}
use Rattle.store.specs.Part.{greatest_of}
use Rattle.store.specs.Sight.{HaveSameWriters, named, live_of, evt_or_0, uncovered_writer, writer_of}
use Rattle.store.proofs.seen.Assembled.{part_made}
use Rattle.store.proofs.seen.Gathered.{came_to_writers}
use Rattle.store.proofs.reading.made_of.Goals as goal

pub returns-clause-ok : goal.returns-clause-ok
returns-clause-ok c = λ sorted asks.
    let p = c.args.predicate.now in
    let items = c.args.seen.now in
    let d = option_copied c.args.deletion in
    let column = λ (s : Seen). live_of d (named s) in
    let live = filter_map column items in
    let columns = c.in_ok-columns.columns in
    let part : Part = record { columns = columns; writers = c.in_ok-writers.writers; evt = c.evt_of.result } in
    let shows : columns ≡ first_of_walk p live = c.in_ok-columns.ensures ∙ c.in_ok-found.ensures.ok in
    let cut : AreAsked p live → columns ≡ slice_of p live = λ asked. shows ∙ cut_of_asked p live asked in
    let rest = option_to_list (option_map (λ (v : Version). v.what.writer) d) in
    let found = filter_map (λ s. writer_of p columns d (named s)) items in
    let came_to : c.reached.result.now ≡ filter (λ s. is_within p columns s.name.now) items =
    c.reached.ensures sorted
    ∙ ap (λ (cs : List Column). filter (λ s. is_within p cs s.name.now) items) (c.as_slice.ensures.value ∙ sym c.in_ok-columns.ensures) in
    let gathered : filter_map (λ s. uncovered_writer d (named s)) c.reached.result.now ≡ found =
    ap (filter_map (λ s. uncovered_writer d (named s))) came_to ∙ came_to_writers p columns d items in
    let same : HaveSameWriters c.in_ok-writers.writers (found ++ rest) =
    subst (λ ws. HaveSameWriters c.in_ok-writers.writers (ws ++ rest)) gathered c.in_ok-writers.ensures.same in
    let evt : c.evt_of.result ≡ max (evt_or_0 d) (greatest_of (map (λ s. s.version.now.evt) items)) = search rules in
    part_made p part items d live (found ++ rest) asks refl cut refl same c.in_ok-writers.ensures.in_order evt
