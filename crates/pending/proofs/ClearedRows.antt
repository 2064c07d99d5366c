-- The marks of a transaction are gone once they are gone from each row.
use Rattle.std.proofs.Common.{◌≡◌, ◌∙◌, ap, subst, refl, cond, Bool, true, false, ℕ, List, [], ◌∷◌, Option, None}
use Rattle.std.specs.Prelude.{if◌then◌else◌}
use Rattle.std.specs.Map.Calls.{RetainsPairs}
use Rattle.std.specs.Ordering.{is_eq}
use Rattle.logical_time.specs.Stamps.{TxnValue, txn_cmp}
use Rattle.column_family.specs.declared.batch.Row.{Row}
use Rattle.column_family.specs.Places.{row_cmp}
use Rattle.pending.specs.Marks.{RowList, MarkList, time_in}
use Rattle.pending.specs.Marked.{IsCleared}
use Rattle.pending.proofs.Maps.{by_cases}

-- the transaction has no mark among those of a row; all others are as they were
abbrev pub IsWithout : TxnValue → RowList → RowList → Type 0
IsWithout u old new = (t : TxnValue) → time_in new t ≡ (if is_eq (txn_cmp u t) then None else time_in old t)

either : (o : Option ℕ) (b : Bool) → o ≡ (if b then o else o)
either o true = refl
either o false = refl

-- a call for each row in turn, which keeps the row and takes the transaction's mark from it, leaves none
pub all_cleared : {F : Type 0} (S : F → Row → RowList → Bool → RowList → F → Type 0) (u : TxnValue) (f : F)
    → ((k : Row) (old : RowList) (b : Bool) (new : RowList) (g : F) → S f k old b new g → (b ≡ true) × IsWithout u old new × (g ≡ f))
    → (olds news : MarkList) → RetainsPairs S f olds news → IsCleared olds news u
all_cleared S u f each [] news r q t = rw r (either None (is_eq (txn_cmp u t)))
all_cleared S u f each (e ∷ es) news r q t =
    let a = each e.0 e.1 r.0 r.1 r.2 r.4 in
    let rest = all_cleared S u f each es r.3 (subst (λ g. RetainsPairs S g es r.3) a.2 r.5) in
    let is : news ≡ (e.0, r.1) ∷ r.3 = r.6 ∙ ap (λ (b : Bool). cond b ((e.0, r.1) ∷ r.3) r.3) a.0 in
    rw is (by_cases (is_eq (row_cmp q e.0))
    (λ yes. rw yes (a.1 t))
    (λ no. rw no (rest q t)))
