-- The test whether a read rests on a transaction holds exactly if the read of the row rests on it.
use Rattle.std.proofs.Common.{◌≡◌, ◌∙◌, sym, ap, refl, ℕ, Bool, true, false, ◌&&◌, ◌||◌, ◌⊎◌, inl, inr, List, [], ◌∷◌, Option, Some, None, arith}
use Rattle.std.specs.Prelude.{◌↔◌}
use Rattle.std.specs.List.{list_any}
use Rattle.std.specs.Ordering.{nat_cmp, is_eq}
use Rattle.std.specs.Cmp.Lexicographic.{slice_cmp}
use Rattle.std.proofs.lemmas.Bool.Decides.{nat_tests}
use Rattle.logical_time.specs.Stamps.{StampValue}
use Rattle.column_family.specs.declared.batch.Row.{Row}
use Rattle.column_family.specs.Location.{is_row_deletion}
use Rattle.column_family.specs.History.{History, newest, newest_of, stamp_of}
use Rattle.column_family.proofs.Options.{both_true, either_true, both_hold, first_holds, second_holds}
use Rattle.slice.specs.declared.predicate.Predicate.{Predicate}
use Rattle.slice.specs.Slice.{slice_of}
use Rattle.slice.specs.Live.{live_columns, columns_changed}
use Rattle.slice.specs.Rests.{is_looked_at, RowRestsOn, RestsByNewest, has_stamp, is_rested_on}
use Rattle.slice.specs.Meeting.{ranges_met}
use Rattle.slice.proofs.Asked.{is_among, equal_names}
use Rattle.slice.proofs.LiveTable.{at as column_at}
use Rattle.slice.proofs.Changed.{among_if_changed, own_name}
use Rattle.slice.proofs.MetRanges.{row_rests_by}

same_time : (a b : StampValue) → has_stamp (Some a) b ≡ true → a.time ≡ b.time
same_time a b e = grind (arith, nat_tests)

same_node : (a b : StampValue) → has_stamp (Some a) b ≡ true → a.node ≡ b.node
same_node a b e = grind (arith, nat_tests)

joined : (a b : StampValue) → a.time ≡ b.time → a.node ≡ b.node → a ≡ b
joined a b time node = ap (λ t. record { time = t; node = a.node }) time ∙ ap (λ n. record { time = b.time; node = n }) node

own_stamp : (a : StampValue) → has_stamp (Some a) a ≡ true
own_stamp a = grind (arith, nat_tests)

pub stamp_found : (o : Option StampValue) (s : StampValue) → has_stamp o s ≡ true → o ≡ Some s
stamp_found None s e = absurd (cc)
stamp_found (Some t) s e = ap Some (joined t s (same_time t s e) (same_node t s e))

stamp_has : (o : Option StampValue) (s : StampValue) → o ≡ Some s → has_stamp o s ≡ true
stamp_has o s e = ap (λ z. has_stamp z s) e ∙ own_stamp s

-- what passes a test among names is one of them
any_found : (f : List ℕ → Bool) (ns : List (List ℕ)) → list_any f ns ≡ true → (n : List ℕ) × (is_among n ns ≡ true) × (f n ≡ true)
any_found f [] e = absurd (cc)
any_found f (n ∷ ns) e = go (f n) refl (any_found f ns) e
  where
    later : (m : List ℕ) × (is_among m ns ≡ true) × (f m ≡ true) → (m : List ℕ) × (is_among m (n ∷ ns) ≡ true) × (f m ≡ true)
    later (m, named, is) = (m, second_holds (is_eq (slice_cmp nat_cmp m n)) (is_among m ns) named, is)

    go : (b : Bool) → f n ≡ b → (list_any f ns ≡ true → (m : List ℕ) × (is_among m ns ≡ true) × (f m ≡ true)) → (b || list_any f ns) ≡ true
        → (m : List ℕ) × (is_among m (n ∷ ns) ≡ true) × (f m ≡ true)
    go true is more e = (n, first_holds (is_eq (slice_cmp nat_cmp n n)) (is_among n ns) (own_name n), is)
    go false is more e = later (more e)

-- a name that passes a test passes it among names of which it is one
any_listed : (f : List ℕ → Bool) (ns : List (List ℕ)) (q : List ℕ) → is_among q ns ≡ true → f q ≡ true → list_any f ns ≡ true
any_listed f [] q named is = absurd (cc)
any_listed f (n ∷ ns) q named is = elim (either_true (is_eq (slice_cmp nat_cmp q n)) (is_among q ns) named) [
  | inl here ↦ first_holds (f n) (list_any f ns) (ap f (sym (equal_names q n here)) ∙ is)
  | inr there ↦ second_holds (f n) (list_any f ns) (any_listed f ns q there is)
]

-- whether the read looked at the column, and its newest mutation has the stamp
abbrev looked_and_stamped : History → Row → Predicate → StampValue → List ℕ → Bool
looked_and_stamped h r p s n = is_looked_at p (slice_of p (live_columns h r)) n && has_stamp (stamp_of (newest h (column_at r n))) s

module _ (h : History) (r : Row) (p : Predicate) (s : StampValue) where
  abbrev looked : List ℕ → Bool
  looked n = looked_and_stamped h r p s n

  abbrev deletion : Option StampValue
  deletion = stamp_of (newest_of (is_row_deletion r) h)

  abbrev met : Bool
  met = ranges_met h r p (slice_of p (live_columns h r)) s

  by_columns : list_any looked (columns_changed h r) ≡ true → RestsByNewest h r p (slice_of p (live_columns h r)) s
  by_columns here =
      let at = any_found looked (columns_changed h r) here in
      let is = both_true (is_looked_at p (slice_of p (live_columns h r)) at.0) (has_stamp (stamp_of (newest h (column_at r at.0))) s) at.2 in
      (at.0, is.0, sym (among_if_changed r at.0 h) ∙ at.1, stamp_found (stamp_of (newest h (column_at r at.0))) s is.1)

  columns_by : RestsByNewest h r p (slice_of p (live_columns h r)) s → list_any looked (columns_changed h r) ≡ true
  columns_by at =
      any_listed looked (columns_changed h r) at.0 (among_if_changed r at.0 h ∙ at.2)
      (both_hold (is_looked_at p (slice_of p (live_columns h r)) at.0) (has_stamp (stamp_of (newest h (column_at r at.0))) s) at.1 (stamp_has (stamp_of (newest h (column_at r at.0))) s at.3))

  rested_if : is_rested_on h r p s ≡ true → RowRestsOn h r p s
  rested_if e = (row_rests_by h r p s).1 (go (either_true (list_any looked (columns_changed h r)) (has_stamp deletion s || met) e))
    where
      later : (has_stamp deletion s ≡ true) ⊎ (met ≡ true) → (deletion ≡ Some s) ⊎ (met ≡ true)
      later (inl gone) = inl (stamp_found deletion s gone)
      later (inr range) = inr range

      go : (list_any looked (columns_changed h r) ≡ true) ⊎ ((has_stamp deletion s || met) ≡ true)
          → RestsByNewest h r p (slice_of p (live_columns h r)) s ⊎ ((deletion ≡ Some s) ⊎ (met ≡ true))
      go (inl here) = inl (by_columns here)
      go (inr there) = inr (later (either_true (has_stamp deletion s) met there))

  only_if_rested : RowRestsOn h r p s → is_rested_on h r p s ≡ true
  only_if_rested rests = go ((row_rests_by h r p s).0 rests)
    where
      go : RestsByNewest h r p (slice_of p (live_columns h r)) s ⊎ ((deletion ≡ Some s) ⊎ (met ≡ true)) → (list_any looked (columns_changed h r) || (has_stamp deletion s || met)) ≡ true
      go (inl at) = first_holds (list_any looked (columns_changed h r)) (has_stamp deletion s || met) (columns_by at)
      go (inr (inl gone)) = second_holds (list_any looked (columns_changed h r)) (has_stamp deletion s || met) (first_holds (has_stamp deletion s) met (stamp_has deletion s gone))
      go (inr (inr range)) = second_holds (list_any looked (columns_changed h r)) (has_stamp deletion s || met) (second_holds (has_stamp deletion s) met range)

pub tested_if_rested : (h : History) (r : Row) (p : Predicate) (s : StampValue) → (is_rested_on h r p s ≡ true) ↔ RowRestsOn h r p s
tested_if_rested h r p s = (rested_if h r p s, only_if_rested h r p s)
