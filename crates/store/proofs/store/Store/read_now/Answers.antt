use Rattle.std.proofs.Common.{subst}
use Rattle.column_family.specs.Places.{row_cmp}
use Rattle.store.specs.declared.sight.Moment.TheVariants.{Now}
use Rattle.store.specs.Stored.{StoreValue, held_by, no_row}
use Rattle.store.specs.Sight.{sight_of}
use Rattle.store.specs.Struck.{ranges_seen, IsPartUnder}
use Rattle.store.proofs.seen.Assembled.{if_ok}
use Rattle.store.proofs.times.FromEvt.{right_from_evt}
use Rattle.store.proofs.seen.PartAt.{part_now}
use Rattle.store.proofs.store.Store.read_now.Goals as goal

pub returns-clause-newest : goal.returns-clause-newest
returns-clause-newest c = λ all keeps.
    let s = c.args.self.now in
    let r = c.args.row.now in
    let p = c.args.predicate.now in
    if_ok c.part_in.result
    (λ part is. part_now s all r p part keeps (subst (λ (k : StoreValue). IsPartUnder (sight_of Now (held_by row_cmp no_row k.rows r)) (ranges_seen Now (held_by row_cmp no_row k.rows r)) p part) c.self.view_is is))
    c.part_in.ensures.ok

pub returns-clause-right : goal.returns-clause-right
returns-clause-right c = λ all t keeps.
    let s = c.args.self.now in
    let r = c.args.row.now in
    let p = c.args.predicate.now in
    if_ok c.part_in.result
    (λ part is valid.
    right_from_evt all r p t part keeps.apart
    (part_now s all r p part keeps (subst (λ (k : StoreValue). IsPartUnder (sight_of Now (held_by row_cmp no_row k.rows r)) (ranges_seen Now (held_by row_cmp no_row k.rows r)) p part) c.self.view_is is)) valid)
    c.part_in.ensures.ok
