-- The least time of a row's marks, and the transactions below a time.
use Rattle.std.proofs.Common.{◌≡◌, ℕ, ◌≤◌, ◌⊎◌, inl, inr, min, nat_lt, fold, sym, subst, refl, ◌∙◌, Bool, true, false, cond, List, [], ◌∷◌, Option, Some, None, IfSome, IsSome, All, Contains, filter, arith}
use Rattle.std.specs.Ordering.{is_eq, eq_by_cmp, nat_cmp}
use Rattle.std.specs.List.{reduce, AllByRecursion}
use Rattle.std.specs.List.Sorted.{IsStrictlySortedBy}
use Rattle.std.specs.Map.{keys_of, values_of}
use Rattle.std.specs.Cmp.{IsTotalOrder}
use Rattle.std.proofs.lemmas.Bool.Decides.{nat_tests}
use Rattle.std.proofs.lemmas.Cmp.{on_total, then_total, nat_cmp_total, eq_by_cmp_equiv}
use Rattle.std.proofs.lemmas.List.Elements.{All-nil, All-cons, Contains-append_right}
use Rattle.std.proofs.lemmas.Map.Entries.{lookup-filter-values}
use Rattle.std.specs.declared.cmp.Ordering.TheVariants.{Less}
use Rattle.std.proofs.lemmas.Map.Entries.{option_filter}
use Rattle.std.proofs.lemmas.Map.Keys.{IsDistinct-from_sorted}
use Rattle.std.proofs.lemmas.Map.Lookups.{exact_unsigned}
use Rattle.std.proofs.lemmas.Map.Made.{Contains-from_values_of}
use Rattle.std.proofs.lemmas.Map.Views.{lookup-from_Contains, Contains-keys_from_lookup, IsSome-lookup_from_Contains, IfSome-lookup_from_All}
use Rattle.logical_time.specs.Stamps.{TxnValue, txn_cmp}
use Rattle.pending.specs.Marks.{RowList, time_in, IsLeast, IsBelow}
use Rattle.column_family.proofs.RowOrder.{both_equal}

pub txn_total : IsTotalOrder txn_cmp
txn_total = then_total (on_total (λ (t : TxnValue). t.session) nat_cmp_total) (on_total (λ (t : TxnValue). t.number) nat_cmp_total)

-- transactions that compare as equal are the same
pub same_txn : (t u : TxnValue) → is_eq (txn_cmp t u) ≡ true → t ≡ u
same_txn t u h =
    let e = both_equal (nat_cmp t.session u.session) (nat_cmp t.number u.number) h in
    let s = exact_unsigned t.session u.session e.0 in
    let n = exact_unsigned t.number u.number e.1 in
    λ i. record { session = s i; number = n i }

-- the least is at most the first, and at most each other
least_first : (a : ℕ) (xs : List ℕ) → fold min a xs ≤ a
least_first a [] = omega arith
least_first a (x ∷ xs) = let h = least_first (min a x) xs in omega arith

least_each : (a : ℕ) (xs : List ℕ) → All (λ x. fold min a xs ≤ x) xs
least_each a [] = All-nil (λ (x : ℕ). a ≤ x)
least_each a (x ∷ xs) =
    All-cons (λ y. fold min (min a x) xs ≤ y) x xs (let h = least_first (min a x) xs in omega arith) (least_each (min a x) xs)

-- the least is the first or another
min_either : (a x : ℕ) → (min a x ≡ a) ⊎ (min a x ≡ x)
min_either a x = grind arith

least_reached : (a : ℕ) (xs : List ℕ) → (fold min a xs ≡ a) ⊎ Contains xs (fold min a xs)
least_reached a [] = inl refl
least_reached a (x ∷ xs) = go (least_reached (min a x) xs) (min_either a x)
  where
    go : (fold min (min a x) xs ≡ min a x) ⊎ Contains xs (fold min (min a x) xs) → (min a x ≡ a) ⊎ (min a x ≡ x) → (fold min (min a x) xs ≡ a) ⊎ Contains (x ∷ xs) (fold min (min a x) xs)
    go (inl e) (inl f) = inl (e ∙ f)
    go (inl e) (inr f) = inr (0, (omega arith), sym (e ∙ f))
    go (inr h) f = inr (Contains-append_right (x ∷ []) xs (fold min (min a x) xs) h)

least_among : (a : ℕ) (xs : List ℕ) → Contains (a ∷ xs) (fold min a xs)
least_among a xs = go (least_reached a xs)
  where
    go : (fold min a xs ≡ a) ⊎ Contains xs (fold min a xs) → Contains (a ∷ xs) (fold min a xs)
    go (inl e) = (0, (omega arith), sym e)
    go (inr h) = Contains-append_right (a ∷ []) xs (fold min a xs) h

-- the least of the values is the least of the times
pub least_of_values : (es : RowList) → IsStrictlySortedBy txn_cmp (keys_of es) → IsLeast (time_in es) (reduce min (values_of es))
least_of_values [] sorted = λ t. refl
least_of_values (e ∷ es) sorted =
    let n = fold min e.1 (values_of es) in
    let at = Contains-from_values_of (e ∷ es) n (least_among e.1 (values_of es)) in
    let found = lookup-from_Contains (eq_by_cmp_equiv txn_total) at.0 n (e ∷ es) (IsDistinct-from_sorted txn_cmp (keys_of (e ∷ es)) sorted) at.1 in
    let each = All-cons (λ x. n ≤ x) e.1 (values_of es) (least_first e.1 (values_of es)) (least_each e.1 (values_of es)) in
    ((at.0, found), λ t m is. subst (λ (o : Option ℕ). IfSome o (λ x. n ≤ x)) is (IfSome-lookup_from_All (λ x. n ≤ x) (eq_by_cmp txn_cmp t) (e ∷ es) each))

all_kept : (P : TxnValue → Type 0) (p : ℕ → Bool) (es : RowList) → AllByRecursion P (keys_of es) → AllByRecursion P (keys_of (filter (λ e. p e.1) es))
all_kept P p [] h = tt
all_kept P p (e ∷ es) h = go (p e.1) (all_kept P p es h.1)
  where
    go : (b : Bool) → AllByRecursion P (keys_of (filter (λ e. p e.1) es)) → AllByRecursion P (keys_of (cond b (e ∷ filter (λ e. p e.1) es) (filter (λ e. p e.1) es)))
    go true more = (h.0, more)
    go false more = more

-- a choice of entries by their values is in order
sorted_kept : (p : ℕ → Bool) (es : RowList) → IsStrictlySortedBy txn_cmp (keys_of es) → IsStrictlySortedBy txn_cmp (keys_of (filter (λ e. p e.1) es))
unfolding IsStrictlySortedBy
sorted_kept p [] h = tt
sorted_kept p (e ∷ es) h = go (p e.1) (sorted_kept p es h.1)
  where
    go : (b : Bool) → IsStrictlySortedBy txn_cmp (keys_of (filter (λ e. p e.1) es)) → IsStrictlySortedBy txn_cmp (keys_of (cond b (e ∷ filter (λ e. p e.1) es) (filter (λ e. p e.1) es)))
    go true more = (all_kept (λ y. txn_cmp e.0 y ≡ Less) p es h.0, more)
    go false more = more

passes : (p : ℕ → Bool) (o : Option ℕ) → IsSome (option_filter p o) → (n : ℕ) × (o ≡ Some n) × (p n ≡ true)
passes p None h = absurd (cc)
passes p (Some n) h = go (p n) refl h
  where
    go : (b : Bool) → p n ≡ b → IsSome (cond b (Some n) None) → (m : ℕ) × (Some n ≡ Some m) × (p m ≡ true)
    go true e h = (n, refl, e)
    go false e h = absurd (cc)

-- the keys of the values below the bound are the transactions below it
pub below_of_values : (es : RowList) (bound : ℕ) → IsStrictlySortedBy txn_cmp (keys_of es) → IsBelow (time_in es) bound (keys_of (filter (λ e. nat_lt e.1 bound) es))
below_of_values es bound sorted =
    let laws = eq_by_cmp_equiv txn_total in
    let early : ℕ → Bool = λ n. nat_lt n bound in
    let kept = filter (λ e. nat_lt e.1 bound) es in
    let at : (t : TxnValue) → time_in kept t ≡ option_filter early (time_in es t) = λ t. lookup-filter-values laws early t es (IsDistinct-from_sorted txn_cmp (keys_of es) sorted) in (
      sorted_kept early es sorted,
      λ t. (
        (λ has. let p = passes early (time_in es t) (subst (λ (o : Option ℕ). IsSome o) (at t) (IsSome-lookup_from_Contains laws t kept has)) in (p.0, p.1, grind (arith, nat_tests, p.2))),
        λ h. Contains-keys_from_lookup same_txn t kept (rw (at t, h.1) (let e : nat_lt h.0 bound ≡ true = grind (arith, nat_tests, h.2) in rw e refl)),
      ),
    )

-- of no mark none is below
pub none_below : (bound : ℕ) → IsBelow (time_in []) bound []
unfolding IsStrictlySortedBy
none_below bound = below_of_values [] bound tt

-- of one mark
pub least_of_one : (txn : TxnValue) (n : ℕ) → IsLeast (time_in ((txn, n) ∷ [])) (Some n)
unfolding IsStrictlySortedBy
least_of_one txn n = least_of_values ((txn, n) ∷ []) (tt, tt)

pub below_of_one : (txn : TxnValue) (n bound : ℕ) → IsBelow (time_in ((txn, n) ∷ [])) bound (keys_of (filter (λ e. nat_lt e.1 bound) ((txn, n) ∷ [])))
unfolding IsStrictlySortedBy
below_of_one txn n bound = below_of_values ((txn, n) ∷ []) bound (tt, tt)
