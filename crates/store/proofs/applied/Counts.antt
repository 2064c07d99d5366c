-- How many deletions of ranges each row has among the changes.
use Rattle.std.proofs.Common.{◌≡◌, sym, ap, subst, refl, ℕ, ◌+◌, Bool, false, List, [], ◌∷◌, length, Some}
use Rattle.std.specs.Prelude.{if◌then◌else◌}
use Rattle.std.specs.List.{list_any}
use Rattle.std.specs.BTreeMap.{BTreeMap, Updates}
use Rattle.column_family.specs.declared.batch.Row.{Row}
use Rattle.column_family.specs.declared.batch.Change.{Change}
use Rattle.column_family.specs.Location.{is_same_row, deletes_range}
use Rattle.column_family.specs.Normal.{ranges_of}
use Rattle.column_family.specs.Places.{row_cmp}
use Rattle.column_family.proofs.Firsts.{row_test}
use Rattle.column_family.proofs.Options.{by_cases, neither}
use Rattle.column_family.proofs.RowOrder.{same_row}
use Rattle.store.specs.Counts.{count_at}
use Rattle.store.proofs.lists.Maps.{step_each}

-- a row is counted once more
pub count_more : (m n : BTreeMap Row ℕ) (k row : Row) → k ≡ row → Updates row_cmp m n k (Some (count_at m row + 1))
    → (r : Row) → count_at n r ≡ (if is_same_row r row then count_at m r + 1 else count_at m r)
count_more m n k row same u r =
    subst (λ (s : Row). count_at n r ≡ (if is_same_row r s then count_at m r + 1 else count_at m r)) same
    (subst (λ (b : Bool). count_at n r ≡ (if b then count_at m r + 1 else count_at m r)) (row_test k r)
    (step_each row_cmp same_row 0 (λ b x y. y ≡ (if b then x + 1 else x)) m n k (count_at m row + 1) u (ap (λ (s : Row). count_at m s + 1) (sym same)) (λ x. refl) r))

-- changes that delete no range have none to count
pub none_deleted : (r : Row) (cs : List Change) → list_any (λ (c : Change). deletes_range c.mutation) cs ≡ false → length (ranges_of r cs) ≡ 0
none_deleted r [] e = refl
none_deleted r (c ∷ cs) e =
    let n = neither (deletes_range c.mutation) (list_any (λ (d : Change). deletes_range d.mutation) cs) e in
    by_cases (is_same_row r c.row)
    (λ yes. rw (yes, n.0) (none_deleted r cs n.1))
    (λ no. rw no (none_deleted r cs n.1))
