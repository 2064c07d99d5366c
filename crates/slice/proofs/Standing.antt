-- A read of a row rests on the same after a batch that stands for another.
use Rattle.std.proofs.Common.{◌≡◌, ◌∙◌, sym, ap, ℕ, List, ◌∷◌, ◌++◌, inl, inr}
use Rattle.std.specs.Prelude.{◌↔◌}
use Rattle.logical_time.specs.Stamps.{StampValue}
use Rattle.column_family.specs.declared.batch.Row.{Row}
use Rattle.column_family.specs.declared.batch.Change.{Change}
use Rattle.column_family.specs.Location.{is_row_deletion}
use Rattle.column_family.specs.History.{History, up_to, newest_of, value_of, stamp_of, RestsOn}
use Rattle.column_family.specs.Normal.{committed, StandsFor}
use Rattle.slice.specs.declared.predicate.Predicate.{Predicate}
use Rattle.slice.specs.Slice.{slice_of}
use Rattle.slice.specs.Live.{live_columns}
use Rattle.slice.specs.Rests.{is_looked_at, RowRestsOn}
use Rattle.slice.proofs.LiveTable.{at, live_columns_alike}

pub rests_alike : (h k : History) (r : Row) (p : Predicate) (w : StampValue) → live_columns h r ≡ live_columns k r
    → ((name : List ℕ) → RestsOn h (at r name) w → RestsOn k (at r name) w)
    → newest_of (is_row_deletion r) h ≡ newest_of (is_row_deletion r) k → RowRestsOn h r p w → RowRestsOn k r p w
rests_alike h k r p w live locations deletion (inl (name, looked, rests)) =
    inl (name, ap (λ columns. is_looked_at p (slice_of p columns) name) (sym live) ∙ looked, locations name rests)
rests_alike h k r p w live locations deletion (inr gone) = inr (ap stamp_of (sym deletion) ∙ gone)

pub stands_for_rests : (kept given : List Change) → StandsFor kept given → (before after : History) (s : StampValue) (commit time : ℕ) (r : Row) (p : Predicate) (w : StampValue)
    → RowRestsOn (up_to time (before ++ committed kept s commit ∷ after)) r p w ↔ RowRestsOn (up_to time (before ++ committed given s commit ∷ after)) r p w
stands_for_rests kept given stands before after s commit time r p w =
    let h = up_to time (before ++ committed kept s commit ∷ after) in
    let k = up_to time (before ++ committed given s commit ∷ after) in
    let live : live_columns h r ≡ live_columns k r =
    live_columns_alike h k r (λ n. ap value_of (stands.newest before after s commit time (at r n))) in
    let deletion : newest_of (is_row_deletion r) h ≡ newest_of (is_row_deletion r) k = stands.deletion before after s commit time r in (
      rests_alike h k r p w live (λ n. (stands.rests before after s commit time (at r n) w).0) deletion,
      rests_alike k h r p w (sym live) (λ n. (stands.rests before after s commit time (at r n) w).1) (sym deletion),
    )
