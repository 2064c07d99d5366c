use Rattle.std.proofs.Common.{rules, ◌≡◌, ◌∙◌, ap, subst, ℕ, List, ◌++◌, map, filter_map, option_map}
use Rattle.std.specs.Prelude.{option_to_list, slice_get}
use Rattle.std.specs.Option.{option_copied}
use Rattle.std.specs.List.Sorted.{IsStrictlySortedBy}
use Rattle.slice.specs.Slice.{walked}
use Rattle.versions.specs.declared.version.Version.{Version}
use Rattle.versions.specs.Chain.{Held}
use Rattle.store.specs.declared.sight.Seen.{Seen}
use Rattle.store.specs.Stored.{Chains, name_cmp}
use Rattle.store.specs.Sight.{HaveSameWriters, named, live_of, uncovered_writer}
use Rattle.store.specs.Walk.{seen_until}
use Rattle.store.proofs.seen.WalkedParts.{walked_part}
use Rattle.store.proofs.reading.part_walked.Goals as goal

pub returns-clause-ok : goal.returns-clause-ok
returns-clause-ok c =
    let d = option_copied c.seen_deletion-deletion.result in
    let row = c.args.row.now in
    let walk = c.in_ok-walk.walk.items in
    let rest = option_to_list (option_map (λ (v : Version). v.what.writer) d) in
    let columns : c.row.inside.columns.entries ≡ row.columns = ap (λ (r : Chains). r.columns) c.row.view_is in
    let deletion : d ≡ slice_get row.deletions.versions 0 = c.seen_deletion-deletion.ensures in
    walked_part row c.args.reversed c.args.most c.args.latest (record { columns = c.in_ok-columns.columns; writers = c.in_ok-writers.writers; evt = c.max.result }) walk d
    (subst (λ (es : List (List ℕ × Held)). IsStrictlySortedBy name_cmp (map (λ e. e.0) es)) columns c.in_ok-walk.ensures.ordered)
    deletion
    (c.in_ok-walk.ensures.seen ∙ ap (λ (es : List (List ℕ × Held)). seen_until d c.args.most (walked c.args.reversed es)) columns)
    (c.in_ok-columns.ensures ∙ c.in_ok-found.ensures.ok ∙ ap (filter_map (λ (s : Seen). live_of d (named s))) c.deref.ensures.value)
    (subst (λ (ss : List Seen). HaveSameWriters c.in_ok-writers.writers (filter_map (λ s. uncovered_writer d (named s)) ss ++ rest)) c.deref-2.ensures.value c.in_ok-writers.ensures.same)
    c.in_ok-writers.ensures.in_order
    (search rules)
    c.requires
