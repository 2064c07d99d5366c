-- When a row by the newest versions is valid, where each part is committed by a time.
use Rattle.std.proofs.Common.{ℕ, ◌≤◌, Bool, true, false, not, ◌&&◌, cond, if◌then◌else◌, List, [], ◌∷◌, map, Option, Some, None, arith}
use Rattle.std.specs.Prelude.{option_map, Contains}
use Rattle.logical_time.specs.Stamps.{is_older}
use Rattle.column_family.specs.declared.batch.Row.{Row}
use Rattle.column_family.specs.declared.batch.Change.{Change}
use Rattle.column_family.specs.declared.batch.Committed.{Committed}
use Rattle.column_family.specs.declared.batch.Mutation.{Mutation}
use Rattle.column_family.specs.Location.{is_column_change, is_row_deletion}
use Rattle.column_family.specs.History.{History, Stamped, newer_of, newest_of, stamped, last_of, is_older_than}
use Rattle.slice.specs.declared.predicate.Predicate.{Predicate}
use Rattle.slice.specs.Slice.{is_asked}
use Rattle.slice.specs.Live.{columns_changed}
use Rattle.store.specs.declared.part.Applied.{Applied}
use Rattle.store.specs.Part.{committed_of, history_of, commit_of, column_evt, leaves_asked, range_evt, greatest_of, evt_of}
use Rattle.store.proofs.lists.Lists.{contains_first, contains_rest}

newer_below : (n : ℕ) (a b : Option Stamped) → commit_of a ≤ n → commit_of b ≤ n → commit_of (newer_of a b) ≤ n
newer_below n None b p q = q
newer_below n (Some a) None p q = p
newer_below n (Some a) (Some b) p q = go (is_older a.stamp b.stamp)
  where
    go : (t : Bool) → commit_of (cond t (Some b) (Some a)) ≤ n
    go true = q
    go false = p

own_below : (n : ℕ) (c : Committed) (o : Option Mutation) → c.commit ≤ n → commit_of (option_map (stamped c) o) ≤ n
own_below n c None le = omega arith
own_below n c (Some m) le = le

newest_below : (n : ℕ) (q : Change → Bool) (vs : List Applied) → ((v : Applied) → Contains vs v → v.commit ≤ n) → commit_of (newest_of q (history_of vs)) ≤ n
newest_below n q [] k = omega arith
newest_below n q (v ∷ vs) k =
    newer_below n (option_map (stamped (committed_of v)) (last_of q (committed_of v).batch)) (newest_of q (history_of vs))
    (own_below n (committed_of v) (last_of q (committed_of v).batch) (k v (contains_first v vs))) (newest_below n q vs (λ u m. k u (contains_rest v u vs m)))

column_below : (n : ℕ) (h : History) (r : Row) (p : Predicate) (c : List ℕ) → commit_of (newest_of (is_column_change (record { row = r; name = c })) h) ≤ n → column_evt h r p c ≤ n
column_below n h r p c le = go (is_asked p c)
  where
    go : (t : Bool) → cond t (commit_of (newest_of (is_column_change (record { row = r; name = c })) h)) 0 ≤ n
    go true = le
    go false = omega arith

greatest_below : (n : ℕ) (f : List ℕ → ℕ) (cs : List (List ℕ)) → ((c : List ℕ) → f c ≤ n) → greatest_of (map f cs) ≤ n
greatest_below n f [] k = omega arith
greatest_below n f (c ∷ cs) k = let h = k c in let t = greatest_below n f cs k in omega arith

ranges_below : (n : ℕ) (h : History) (r : Row) (p : Predicate) (vs : List Applied) → ((v : Applied) → Contains vs v → v.commit ≤ n)
    → greatest_of (map (range_evt h r p) (history_of vs)) ≤ n
ranges_below n h r p [] k = omega arith
ranges_below n h r p (v ∷ vs) k =
    let first = one (leaves_asked r p v.part.batch && not (is_older_than (newest_of (is_row_deletion r) h) v.stamp)) (k v (contains_first v vs)) in
    let rest = ranges_below n h r p vs (λ u m. k u (contains_rest v u vs m)) in
    omega (arith, first, rest)
  where
    one : (b : Bool) → v.commit ≤ n → (if b then v.commit else 0) ≤ n
    one true le = le
    one false le = omega arith

-- where each part is committed by a time, a row isn't valid later only
pub evt_early : (n : ℕ) (vs : List Applied) (r : Row) (p : Predicate) → ((v : Applied) → Contains vs v → v.commit ≤ n) → evt_of (history_of vs) r p ≤ n
evt_early n vs r p k =
    let deletion = newest_below n (is_row_deletion r) vs k in
    let columns =
    greatest_below n (column_evt (history_of vs) r p) (columns_changed (history_of vs) r)
    (λ c. column_below n (history_of vs) r p c (newest_below n (is_column_change (record { row = r; name = c })) vs k)) in
    let ranges = ranges_below n (history_of vs) r p vs k in
    omega (arith, deletion, columns, ranges)
