use Rattle.std.proofs.Common.{rules, ◌≡◌, ◌∙◌, subst, take, ◌++◌, [], ◌∷◌, ◌<◌, true, arith}
use Rattle.std.proofs.lemmas.List.{take_more}
use Rattle.column_family.specs.declared.batch.Row.{Row}
use Rattle.column_family.specs.declared.batch.Change.{Change}
use Rattle.store.specs.Stored.{Place, chain_at, is_at, HasRoomAtPlaces}
use Rattle.store.proofs.applied.Changes.{room_more, room_at}
use Rattle.store.proofs.rows.reserve_places.Goals as goal

pub returns-in_err-reserve_change-clause-versions : goal.returns-in_err-reserve_change-clause-versions
returns-in_err-reserve_change-clause-versions c = λ r p. c.reserve_change.ensures.versions r p ∙ c.loop-change.invariant.versions r p

pub returns-in_err-reserve_change-clause-ranges : goal.returns-in_err-reserve_change-clause-ranges
returns-in_err-reserve_change-clause-ranges c = λ r. c.reserve_change.ensures.ranges r ∙ c.loop-change.invariant.ranges r

pub returns-in_err-reserve_change-clause-room : goal.returns-in_err-reserve_change-clause-room
returns-in_err-reserve_change-clause-room c = λ r p.
    let first = c.loop-change.invariant.grows r p in let next = c.reserve_change.ensures.room r p in omega arith

pub returns-in_err-reserve_change-clause-succeeds : goal.returns-in_err-reserve_change-clause-succeeds
returns-in_err-reserve_change-clause-succeeds c = λ has.
    let ok = c.reserve_change.ensures.succeeds (room_at c.args.rows.now.entries c.loop-change.rows.entries c.args.changes.now c.loop-change.change-index c.change-item.result c.loop-change-test.true c.change-item.is has c.loop-change.invariant.grows) in
    let no = rw c.in_err-reserve_change.was at ok in absurd (cc)

pub loop-change-preserved : goal.loop-change-preserved
loop-change-preserved c =
    let i = c.loop-change.invariant in
    let e = take_more c.args.changes.now c.loop-change.change-index c.change-item.result c.loop-change-test.true in
    let here : (r : Row) (p : Place) → is_at r p c.change-item.result ≡ true → 0 < (chain_at c.reserve_change.new.rows.entries r p).room = search rules in
    let more = room_more c.loop-change.rows.entries c.reserve_change.new.rows.entries (take c.loop-change.change-index c.args.changes.now) c.change-item.result i.room c.reserve_change.ensures.room here in
    record {
      versions = λ r p. c.reserve_change.ensures.versions r p ∙ i.versions r p;
      ranges = λ r. c.reserve_change.ensures.ranges r ∙ i.ranges r;
      grows = λ r p. let first = i.grows r p in let next = c.reserve_change.ensures.room r p in omega arith;
      room = rw e (subst (λ (x : Change). HasRoomAtPlaces c.reserve_change.new.rows.entries (take c.loop-change.change-index c.args.changes.now ++ x ∷ [])) c.change-item.is more);
    }
