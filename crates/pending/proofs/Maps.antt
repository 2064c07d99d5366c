-- What is marked after a step of a map.
use Rattle.std.proofs.Common.{◌≡◌, ℕ, ap, sym, subst, refl, cond, Bool, true, false, [], Option, Some, None}
use Rattle.std.specs.Prelude.{unwrap_or, if◌then◌else◌, ◌&&◌}
use Rattle.std.specs.Ordering.{is_eq}
use Rattle.std.specs.Map.{lookup}
use Rattle.logical_time.specs.Stamps.{TxnValue, txn_cmp}
use Rattle.column_family.specs.declared.batch.Row.{Row}
use Rattle.column_family.specs.Places.{row_cmp}
use Rattle.column_family.proofs.RowOrder.{same_row}
use Rattle.pending.specs.Marks.{RowList, MarkList, time_in, time_at, marks_of, is_same_mark}

-- by what a test answers
pub by_cases : {P : Type 0} (b : Bool) → (b ≡ true → P) → (b ≡ false → P) → P
by_cases true f g = f refl
by_cases false f g = g refl

-- a step of the rows' map writes this list at a row
abbrev pub Writes : MarkList → MarkList → Row → RowList → Type 0
Writes ms ns k w = (q : Row) → lookup (λ j. is_eq (row_cmp q j)) ns ≡ cond (is_eq (row_cmp k q)) (Some w) (lookup (λ j. is_eq (row_cmp q j)) ms)

-- after what is listed at a row is written, each list stands to what it was as the relation says: at the row, and elsewhere
each_row : (P : Bool → RowList → RowList → Type 0) (ms ns : MarkList) (k : Row) (w : RowList) → Writes ms ns k w → P true (marks_of ms k) w → ((xs : RowList) → P false xs xs) → (q : Row) → P (is_eq (row_cmp k q)) (marks_of ms q) (marks_of ns q)
each_row P ms ns k w u here there q =
    subst (λ (o : Option RowList). P (is_eq (row_cmp k q)) (marks_of ms q) (unwrap_or o [])) (sym (u q))
    (by_cases {P = P (is_eq (row_cmp k q)) (marks_of ms q) (unwrap_or (if is_eq (row_cmp k q) then Some w else lookup (λ j. is_eq (row_cmp q j)) ms) [])} (is_eq (row_cmp k q))
    (λ yes. rw yes (subst (λ (z : Row). P true (marks_of ms z) w) (same_row k q yes) here))
    (λ no. rw no (there (marks_of ms q))))

-- what was found is what is listed
pub found : (ms : MarkList) (k : Row) (xs : RowList) → lookup (λ j. is_eq (row_cmp k j)) ms ≡ Some xs → marks_of ms k ≡ xs
found ms k xs e = ap (λ (o : Option RowList). unwrap_or o []) e

-- where nothing was found nothing is listed
pub not_found : (ms : MarkList) (k : Row) → lookup (λ j. is_eq (row_cmp k j)) ms ≡ None → marks_of ms k ≡ []
not_found ms k e = ap (λ (o : Option RowList). unwrap_or o []) e

-- after a transaction's mark in a row is written, each mark is the one that was written or what it was
pub each_mark : (ms ns : MarkList) (k : Row) (w : RowList) (txn : TxnValue) (o : Option ℕ) → Writes ms ns k w → ((t : TxnValue) → time_in w t ≡ (if is_eq (txn_cmp txn t) then o else time_in (marks_of ms k) t)) → (r : Row) (t : TxnValue) → time_at ns r t ≡ (if is_same_mark k txn r t then o else time_at ms r t)
each_mark ms ns k w txn o u here = each_row (λ b x y. (t : TxnValue) → time_in y t ≡ (if b && is_eq (txn_cmp txn t) then o else time_in x t)) ms ns k w u here (λ x t. refl)

-- after a row's marks are written as they were, each mark is what it was
pub same_marks : (ms ns : MarkList) (k : Row) (w : RowList) → Writes ms ns k w → w ≡ marks_of ms k → (r : Row) (t : TxnValue) → time_at ns r t ≡ time_at ms r t
same_marks ms ns k w u same = each_row (λ b x y. (t : TxnValue) → time_in y t ≡ time_in x t) ms ns k w u (λ t. ap (λ (x : RowList). time_in x t) same) (λ x t. refl)

-- a row without a mark has none to take away
pub none_to_clear : (ms : MarkList) (k : Row) (txn : TxnValue) → marks_of ms k ≡ [] → (r : Row) (t : TxnValue) → time_at ms r t ≡ (if is_same_mark k txn r t then None else time_at ms r t)
none_to_clear ms k txn none r t =
    by_cases {P = time_at ms r t ≡ (if is_same_mark k txn r t then None else time_at ms r t)} (is_eq (row_cmp k r))
    (λ yes.
    let here : marks_of ms r ≡ [] = subst (λ (z : Row). marks_of ms z ≡ []) (same_row k r yes) none in
    rw yes (subst (λ (x : RowList). time_in x t ≡ (if is_eq (txn_cmp txn t) then None else time_in x t)) (sym here) (either None (is_eq (txn_cmp txn t)))))
    (λ no. rw no refl)
  where
    either : (o : Option ℕ) (b : Bool) → o ≡ (if b then o else o)
    either o true = refl
    either o false = refl
