use Rattle.std.proofs.Common.{◌≡◌, ◌∙◌, sym, ap, subst, List, [], Some}
use Rattle.std.specs.Prelude.{is_some}
use Rattle.std.specs.Option.{IfSome}
use Rattle.std.specs.Ordering.{is_gt}
use Rattle.std.specs.List.{slice_get}
use Rattle.std.specs.declared.cmp.Ordering.{Ordering}
use Rattle.std.specs.declared.ops.Bound.TheVariants.{Included}
use Rattle.std.specs.BTreeMap.{get}
use Rattle.std.specs.BTreeMap.Range.{IsEntryInRange, entries_between}
use Rattle.column_family.specs.declared.batch.Change.{Change}
use Rattle.column_family.specs.declared.places.Place.{Place}
use Rattle.column_family.specs.Places.{is_among}
use Rattle.column_family.specs.contracts.places.PlaceOrd.TheImpl as places
use Rattle.column_family.proofs.Derived.{same_places, same_order}
use Rattle.column_family.proofs.Removing.{among, left_where_none}
use Rattle.column_family.proofs.places.first_between.Goals as goal

pub range-requires : goal.range-requires
range-requires c = ap is_gt (same_places c.args.low.now c.args.high.now) ∙ c.requires

pub returns-in-Some-clause-some : goal.returns-in-Some-clause-some
returns-in-Some-clause-some c =
    let h = (c.range.ensures.in_range tt).1 in
    let g = subst (λ (r : List (Place × Change)). IfSome (slice_get r 0) (IsEntryInRange places.ghosts.cmp (Included c.args.low.now) (Included c.args.high.now) c.args.kept.now)) c.in-Some.ensures.steps h in
    let k = subst (λ (R : Place → Place → Ordering). IsEntryInRange R (Included c.args.low.now) (Included c.args.high.now) c.args.kept.now (c.in-Some.place.now, c.in-Some.field-0-1.now)) same_order g in
    among c.args.low.now c.args.high.now c.in-Some.place.now k.0.0 k.0.1

pub returns-in-Some-clause-held : goal.returns-in-Some-clause-held
returns-in-Some-clause-held c =
    let h = (c.range.ensures.in_range tt).1 in
    let g = subst (λ (r : List (Place × Change)). IfSome (slice_get r 0) (IsEntryInRange places.ghosts.cmp (Included c.args.low.now) (Included c.args.high.now) c.args.kept.now)) c.in-Some.ensures.steps h in
    let k : get places.ghosts.cmp c.args.kept.now c.in-Some.place.now ≡ Some c.in-Some.field-0-1.now = g.1 in
    ap is_some (subst (λ (R : Place → Place → Ordering). get R c.args.kept.now c.in-Some.place.now ≡ Some c.in-Some.field-0-1.now) same_order k)

pub returns-in-None-clause-none : goal.returns-in-None-clause-none
returns-in-None-clause-none c =
    let h : entries_between places.ghosts.cmp (Included c.args.low.now) (Included c.args.high.now) c.args.kept.now.entries ≡ [] = sym (c.range.ensures.between tt) ∙ c.in-None.ensures.steps.0 in
    left_where_none (is_among c.args.low.now c.args.high.now) c.args.kept.now.entries
    (subst (λ (R : Place → Place → Ordering). entries_between R (Included c.args.low.now) (Included c.args.high.now) c.args.kept.now.entries ≡ []) same_order h)
