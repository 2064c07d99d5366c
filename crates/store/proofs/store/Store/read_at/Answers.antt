use Rattle.std.proofs.Common.{subst}
use Rattle.column_family.specs.Places.{row_cmp}
use Rattle.store.specs.declared.part.Part.{Part}
use Rattle.store.specs.declared.sight.Moment.{Moment}
use Rattle.store.specs.declared.sight.Moment.TheVariants.{At}
use Rattle.store.specs.Stored.{StoreValue, held_by, no_row}
use Rattle.store.specs.Part.{applied_by}
use Rattle.store.specs.Sight.{sight_of}
use Rattle.store.specs.Struck.{ranges_seen, IsPartUnder}
use Rattle.store.proofs.seen.Assembled.{any_evt}
use Rattle.store.proofs.newest.Later.{right_lasts}
use Rattle.store.proofs.seen.PartAt.{part_at}
use Rattle.store.proofs.store.Store.read_at.Goals as goal

pub returns-clause-right : goal.returns-clause-right
returns-clause-right c = λ all keeps.
    let s = c.args.self.now in
    let r = c.args.row.now in
    let p = c.args.predicate.now in
    let part = c.in_ok-part.part in
    let is = c.in_ok-moment.ensures.ok in
    any_evt (applied_by c.args.time all) r p part c.zero.result
    (part_at s all r p c.args.time part keeps is.1
    (subst (λ (k : StoreValue). IsPartUnder (sight_of (At c.args.time) (held_by row_cmp no_row k.rows r)) (ranges_seen (At c.args.time) (held_by row_cmp no_row k.rows r)) p part) c.self.view_is
    (subst (λ (m : Moment). IsPartUnder (sight_of m (held_by row_cmp no_row c.self.inside.rows.entries r)) (ranges_seen m (held_by row_cmp no_row c.self.inside.rows.entries r)) p part) is.0 c.in_ok-part.ensures.ok)))

pub returns-clause-lasts : goal.returns-clause-lasts
returns-clause-lasts c = λ all later keeps above.
    let part : Part = record { columns = c.in_ok-part.part.columns; writers = c.in_ok-part.part.writers; evt = c.zero.result } in
    right_lasts all later c.args.row.now c.args.predicate.now c.args.time part above (returns-clause-right c all keeps)
