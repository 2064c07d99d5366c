use Rattle.std.proofs.Common.{◌≡◌, ◌<◌, true, arith}
use Rattle.std.specs.List.{list_any}
use Rattle.column_family.specs.declared.batch.Row.{Row}
use Rattle.store.specs.Stored.{Place, chain_at, is_at}
use Rattle.store.proofs.newest.Places.{on_ok}
use Rattle.store.proofs.rows.reserve_changes.Goals as goal

pub returns-clause-ok : goal.returns-clause-ok
returns-clause-ok c =
    let at_places : (r : Row) (p : Place) → list_any (is_at r p) c.args.changes.now ≡ true → 0 < (chain_at c.reserve_ranges.new.rows.entries r p).room = λ r p at.
    (let first = c.in_ok-reserve_places.ensures.ok r p at in let more = c.reserve_ranges.ensures.place_room r p in omega (arith, first, more)) in
    on_ok c.reserve_ranges.result (λ ranges. (at_places, ranges)) c.reserve_ranges.ensures.ok
