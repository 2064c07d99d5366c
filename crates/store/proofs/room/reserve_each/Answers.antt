use Rattle.std.proofs.Common.{rules, ◌≡◌, ◌≤◌, ◌∙◌, ap, sym, subst, take, ◌++◌, [], ◌∷◌, length, true, List, arith}
use Rattle.std.specs.List.{list_any}
use Rattle.std.proofs.lemmas.List.{take_more, take_all}
use Rattle.column_family.specs.declared.batch.Row.{Row}
use Rattle.column_family.specs.declared.batch.Change.{Change}
use Rattle.column_family.specs.Location.{deletes_range}
use Rattle.column_family.specs.Normal.{ranges_of}
use Rattle.store.specs.Stored.{ranges_in}
use Rattle.store.proofs.applied.Written.{is_range_of, range_done, room_for_all}
use Rattle.store.proofs.room.reserve_each.Goals as goal

pub loop-change-preserved : goal.loop-change-preserved
loop-change-preserved c =
    let i = c.loop-change.invariant in
    let x = c.change-item.result in
    let so_far = take c.loop-change.change-index c.args.changes.now in
    let e = take_more c.args.changes.now c.loop-change.change-index x c.loop-change-test.true ∙ ap (λ (y : Change). so_far ++ y ∷ []) (sym c.change-item.is) in
    let here : deletes_range x.mutation ≡ true → length (ranges_of x.row c.args.changes.now) ≤ (ranges_in c.reserve_for.new.rows.entries x.row).room = search rules in
    record {
      places = λ r p. c.reserve_for.ensures.places r p ∙ i.places r p;
      place_room = λ r p. let first = i.place_room r p in let next = c.reserve_for.ensures.place_room r p in omega (arith, first, next);
      ranges = λ r. c.reserve_for.ensures.ranges r ∙ i.ranges r;
      room = λ r. let first = i.room r in let next = c.reserve_for.ensures.room r in omega (arith, first, next);
      done = λ r any. range_done c.loop-change.rows.entries c.reserve_for.new.rows.entries c.args.changes.now so_far x i.done c.reserve_for.ensures.room here r
          (subst (λ (cs : List Change). list_any (is_range_of r) cs ≡ true) e any);
    }

pub returns-clause-ok : goal.returns-clause-ok
returns-clause-ok c =
    let all = take_all c.loop-change.change-index c.args.changes.now (search rules) in
    room_for_all c.loop-change.rows.entries c.args.changes.now
    (subst (λ (cs : List Change). (r : Row) → list_any (is_range_of r) cs ≡ true → length (ranges_of r c.args.changes.now) ≤ (ranges_in c.loop-change.rows.entries r).room) all c.loop-change.invariant.done)

pub returns-in_err-reserve_for-clause-places : goal.returns-in_err-reserve_for-clause-places
returns-in_err-reserve_for-clause-places c = λ r p. c.reserve_for.ensures.places r p ∙ c.loop-change.invariant.places r p

pub returns-in_err-reserve_for-clause-place_room : goal.returns-in_err-reserve_for-clause-place_room
returns-in_err-reserve_for-clause-place_room c = λ r p. let first = c.loop-change.invariant.place_room r p in let next = c.reserve_for.ensures.place_room r p in omega (arith, first, next)

pub returns-in_err-reserve_for-clause-ranges : goal.returns-in_err-reserve_for-clause-ranges
returns-in_err-reserve_for-clause-ranges c = λ r. c.reserve_for.ensures.ranges r ∙ c.loop-change.invariant.ranges r

pub returns-in_err-reserve_for-clause-room : goal.returns-in_err-reserve_for-clause-room
returns-in_err-reserve_for-clause-room c = λ r. let first = c.loop-change.invariant.room r in let next = c.reserve_for.ensures.room r in omega (arith, first, next)

pub returns-in_err-reserve_for-clause-succeeds : goal.returns-in_err-reserve_for-clause-succeeds
returns-in_err-reserve_for-clause-succeeds c = λ has.
    let ok = c.reserve_for.ensures.succeeds (λ r. let first = has r in let more = c.loop-change.invariant.room r in omega (arith, first, more)) in
    let no = rw c.in_err-reserve_for.was at ok in absurd (cc)
