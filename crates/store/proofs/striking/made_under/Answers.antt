use Rattle.std.proofs.Common.{rules, ◌≡◌, ◌∙◌, ap, sym, subst, refl, List, not, ◌++◌, max, map, filter, filter_map, option_map}
use Rattle.std.specs.Prelude.{option_to_list}
use Rattle.std.specs.List.{list_any}
use Rattle.std.specs.List.Sorted.{IsStrictlySortedBy}
use Rattle.std.specs.Option.{option_copied}
use Rattle.slice.specs.Rests.{is_within}
use Rattle.slice.specs.Slice.{AreAsked, first_of_walk, slice_of}
use Rattle.slice.specs.declared.column.Column.{Column}
use Rattle.slice.specs.declared.predicate.Predicate.{Predicate}
use Rattle.slice.proofs.Selected.{cut_of_asked}
use Rattle.versions.specs.declared.version.Version.{Version}
use Rattle.store.specs.declared.part.Part.{Part}
use Rattle.store.specs.declared.sight.Seen.{Seen}
use Rattle.store.specs.Stored.{name_cmp}
use Rattle.store.specs.Part.{greatest_of}
use Rattle.store.specs.Sight.{HaveSameWriters, named, live_of, evt_or_0, uncovered_writer, writer_of}
use Rattle.store.specs.Struck.{ranged, strikes, writers_met, evt_asked}
use Rattle.store.proofs.seen.Gathered.{came_to_writers}
use Rattle.store.proofs.seen.Strikes.{made_under, sorted_kept}
use Rattle.store.proofs.striking.made_under.Goals as goal

pub returns-clause-ok : goal.returns-clause-ok
returns-clause-ok c = λ sorted asks.
    let p = c.args.predicate.now in
    let items = c.args.seen.now in
    let ranges = c.args.ranges.now in
    let d = option_copied c.args.deletion in
    let bare = c.args.bare.now in
    let live = filter_map (λ s. live_of d (named s)) bare in
    let columns = c.in_ok-columns.columns in
    let part : Part = record { columns = columns; writers = c.in_ok-writers.writers; evt = c.max-evt.result } in
    let shows : columns ≡ first_of_walk p live = c.in_ok-columns.ensures ∙ c.in_ok-found.ensures.ok in
    let cut : AreAsked p live → columns ≡ slice_of p live = λ asked. shows ∙ cut_of_asked p live asked in
    let in_names : IsStrictlySortedBy name_cmp (map (λ s. s.name.now) bare) =
    subst (λ (ss : List Seen). IsStrictlySortedBy name_cmp (map (λ s. s.name.now) ss)) (sym c.requires)
    (sorted_kept (λ (s : Seen). s.name.now) (λ s. not (list_any (λ x. strikes x.range.now (named s)) ranges)) items sorted) in
    let shown : c.as_slice.result.now ≡ columns = c.as_slice.ensures.value ∙ sym c.in_ok-columns.ensures in
    let came_to : c.reached-came_to.result.now ≡ filter (λ s. is_within p columns s.name.now) bare =
    c.reached-came_to.ensures in_names ∙ ap (λ (cs : List Column). filter (λ s. is_within p cs s.name.now) bare) shown in
    let rest = option_to_list (option_map (λ (v : Version). v.what.writer) d) in
    let gathered : filter_map (λ s. uncovered_writer d (named s)) c.reached-came_to.result.now ≡ filter_map (λ s. writer_of p columns d (named s)) bare =
    ap (filter_map (λ s. uncovered_writer d (named s))) came_to ∙ came_to_writers p columns d bare in
    let again : c.as_slice-2.result.now ≡ columns = c.as_slice-2.ensures.value ∙ sym c.in_ok-columns.ensures in
    let same : HaveSameWriters c.in_ok-writers.writers ((filter_map (λ s. writer_of p columns d (named s)) bare ++ rest) ++ writers_met p columns (map ranged ranges)) =
    subst (λ (cs : List Column). HaveSameWriters c.in_ok-writers.writers ((filter_map (λ s. writer_of p columns d (named s)) bare ++ rest) ++ writers_met p cs (map ranged ranges))) again
    (subst (λ ws. HaveSameWriters c.in_ok-writers.writers ((ws ++ rest) ++ writers_met p c.as_slice-2.result.now (map ranged ranges))) gathered
    (subst (λ (q : Predicate). HaveSameWriters c.in_ok-writers.writers ((filter_map (λ s. uncovered_writer d (named s)) c.reached-came_to.result.now ++ rest) ++ writers_met q c.as_slice-2.result.now (map ranged ranges))) c.in_ok-asked.ensures.ok c.in_ok-writers.ensures.same)) in
    let evt : c.max-evt.result ≡ max (max (evt_or_0 d) (greatest_of (map (λ s. s.version.now.evt) items))) (evt_asked c.in_ok-asked.asked (map ranged ranges)) = search rules in
    let evts = evt ∙ ap (λ (q : Predicate). max (max (evt_or_0 d) (greatest_of (map (λ s. s.version.now.evt) items))) (evt_asked q (map ranged ranges))) c.in_ok-asked.ensures.ok in
    made_under p part items bare ranges d live c.requires asks refl cut same c.in_ok-writers.ensures.in_order evts
