use Rattle.std.proofs.Common.{◌≡◌, ◌∙◌, ap, subst, [], ◌∷◌, ◌++◌, List}
use Rattle.column_family.specs.declared.batch.Change.{Change}
use Rattle.column_family.specs.Places.{row_cmp}
use Rattle.store.specs.declared.origin.Origin.{Origin}
use Rattle.store.specs.declared.part.Applied.{Applied}
use Rattle.store.specs.declared.sight.Moment.{Moment}
use Rattle.store.specs.declared.sight.Moment.TheVariants.{At}
use Rattle.store.specs.Stored.{Place, StoreValue, chain_of, held_by, no_row, put_all, put_all_ranges, ranges_written, written}
use Rattle.versions.specs.declared.range.RangeDeletion.{RangeDeletion}
use Rattle.std.specs.Prelude.{Contains, ◌↔◌}
use Rattle.store.specs.Part.{applied_by}
use Rattle.store.specs.Sight.{sight_of, laid_over}
use Rattle.store.specs.Struck.{ranges_over, IsPartUnder}
use Rattle.store.proofs.seen.Assembled.{any_evt}
use Rattle.store.proofs.applied.Written.{IsRangeWritten, left_held}
use Rattle.store.proofs.laid_over.ReadWith.{part_with}
use Rattle.store.proofs.store.Store.read_with.Goals as goal

pub returns-clause-right : goal.returns-clause-right
returns-clause-right c = λ all keeps normal fresh.
    let s = c.args.self.now in
    let r = c.args.row.now in
    let p = c.args.predicate.now in
    let t = c.args.time in
    let part = c.in_ok-part.part in
    let over = c.in_ok-over.over in
    let a : Applied = record { part = record { writer = c.args.writer; batch = c.args.batch.now }; commit = c.args.commit; stamp = c.args.stamp } in
    let o : Origin = record { writer = c.args.writer; stamp = c.args.stamp; evt = c.args.commit } in
    let left : (q : Place) → (chain_of over q).versions ≡ put_all [] (written o r q c.args.batch.now) = λ q.
    c.in_ok-over.ensures.ok q
    ∙ ap (λ (from : Origin). put_all [] (written from r q c.as_slice.result.now)) c.new-origin.ensures
    ∙ ap (λ (cs : List Change). put_all [] (written o r q cs)) c.as_slice.ensures in
    let left_also : (y : RangeDeletion) → Contains over.ranges.ranges y ↔ IsRangeWritten o r c.args.batch.now y = λ y.
    left_held o r c.args.batch.now over.ranges.ranges y
    (c.in_ok-over.ensures.ranges
    ∙ ap (λ (from : Origin). put_all_ranges [] (ranges_written from r c.as_slice.result.now)) c.new-origin.ensures
    ∙ ap (λ (cs : List Change). put_all_ranges [] (ranges_written o r cs)) c.as_slice.ensures) in
    let is = c.in_ok-moment.ensures.ok in
    any_evt (applied_by t (all ++ a ∷ [])) r p part c.zero.result
    (part_with s all a over r p t part keeps is.1 normal fresh left left_also
    (subst (λ (k : StoreValue). IsPartUnder (laid_over (sight_of (At t) (held_by row_cmp no_row k.rows r)) (sight_of (At t) over)) (ranges_over (At t) (held_by row_cmp no_row k.rows r) over) p part) c.self.view_is
    (subst (λ (m : Moment). IsPartUnder (laid_over (sight_of m (held_by row_cmp no_row c.self.inside.rows.entries r)) (sight_of m over)) (ranges_over m (held_by row_cmp no_row c.self.inside.rows.entries r) over) p part) is.0 c.in_ok-part.ensures.ok)))
