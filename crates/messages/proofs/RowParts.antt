-- The rows that a shard answers are parts of what it applied, in the words of the store.
use Rattle.std.proofs.Common.{subst, refl, ℕ, List, map}
use Rattle.std.specs.Prelude.{filter, Contains}
use Rattle.logical_time.specs.Stamps.{WriterValue}
use Rattle.column_family.specs.declared.batch.Row.{Row}
use Rattle.slice.specs.declared.predicate.Predicate.{Predicate}
use Rattle.slice.specs.declared.read.Read.{Read}
use Rattle.store.specs.declared.part.Applied.{Applied}
use Rattle.store.specs.Part.{history_of, applied_by, IsRestedOn, IsPartOf, IsRightPart, IsNewestPart}
use Rattle.store.proofs.lists.Lists.{kept, kept_only}
use Rattle.planner.proofs.Members.{contains_map, map_contains}
use Rattle.messages.specs.Shard.{ShardState}
use Rattle.slice.specs.Rows.{row_of}
use Rattle.messages.specs.Rows.{columns_of, is_rested_on, writers_of, row_now, row_at}
use Rattle.slice.proofs.Rested.{tested_if_rested}
use Rattle.messages.proofs.WritersInOrder.{writers_ascend, writers_stay}

-- the parts that the read rests on
abbrev rested : List Applied → Row → Predicate → List Applied
rested applied r p = filter (λ x. is_rested_on (history_of applied) r p x.stamp) applied

abbrev writers : List Applied → List WriterValue
writers applied = map (λ x. x.part.writer) applied

into : (applied : List Applied) (r : Row) (p : Predicate) (w : WriterValue) → Contains (writers_of applied r p) w → IsRestedOn applied r p w
into applied r p w has =
    let m = map_contains (λ x. x.part.writer) (rested applied r p) w ((writers_stay (writers (rested applied r p)) w).0 has) in
    let k = kept_only (λ x. is_rested_on (history_of applied) r p x.stamp) applied m.0 m.1 in
    (m.0, k.0, m.2, (tested_if_rested (history_of applied) r p m.0.stamp).0 k.1)

out_of : (applied : List Applied) (r : Row) (p : Predicate) (w : WriterValue) → IsRestedOn applied r p w → Contains (writers_of applied r p) w
out_of applied r p w (x, has, e, rests) =
    let k = kept (λ y. is_rested_on (history_of applied) r p y.stamp) applied x has ((tested_if_rested (history_of applied) r p x.stamp).1 rests) in
    (writers_stay (writers (rested applied r p)) w).1 (subst (λ z. Contains (writers (rested applied r p)) z) e (contains_map (λ y. y.part.writer) (rested applied r p) x k))

pub row_shown : (applied : List Applied) (r : Row) (p : Predicate) (evt : ℕ) → IsPartOf applied r p (record { columns = columns_of applied r p; writers = writers_of applied r p; evt = evt })
row_shown applied r p evt = record { columns = refl; writers = λ w. (into applied r p w, out_of applied r p w); in_order = writers_ascend (writers (rested applied r p)) }

-- a row at a time
pub row_at_shown : (time : ℕ) (a : ShardState) (read : Read) (key : List ℕ)
    → IsRightPart a.applied (row_of read key) read.predicate time (record { columns = (row_at time a read key).columns; writers = (row_at time a read key).writers; evt = 0 })
row_at_shown time a read key = row_shown (applied_by time a.applied) (row_of read key) read.predicate 0

-- a row by the newest versions
pub row_now_shown : (n : ℕ) (a : ShardState) (read : Read) (key : List ℕ)
    → IsNewestPart a.applied (row_of read key) read.predicate (record { columns = (row_now n a read key).columns; writers = (row_now n a read key).writers; evt = (row_now n a read key).evt })
row_now_shown n a read key = record { shown = row_shown a.applied (row_of read key) read.predicate (row_now n a read key).evt; evt = refl }
