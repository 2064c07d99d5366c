-- What is newest of parts comes from a change of one of them, and is no older than any change that passes the test.
use Rattle.std.proofs.Common.{◌≡◌, ◌∙◌, sym, ap, subst, refl, ℕ, Bool, true, false, ◌||◌, inl, inr, List, [], ◌∷◌, Option, Some, None, option_map, if◌then◌else◌, arith}
use Rattle.std.specs.Prelude.{Contains, ◌⊎◌}
use Rattle.std.specs.Ordering.{is_eq}
use Rattle.std.specs.Option.{option_or}
use Rattle.std.proofs.lemmas.Bool.Decides.{nat_tests}
use Rattle.logical_time.specs.Stamps.{StampValue, stamp_cmp, is_older}
use Rattle.column_family.specs.declared.batch.Row.{Row}
use Rattle.column_family.specs.declared.batch.Change.{Change}
use Rattle.column_family.specs.declared.batch.Mutation.{Mutation}
use Rattle.column_family.specs.declared.batch.Mutation.TheVariants.{Insert, DeleteColumn, DeleteRow, DeleteRange}
use Rattle.column_family.specs.Names.{is_between}
use Rattle.column_family.specs.Location.{is_same_row, deletes_row, ranges_over, is_row_deletion}
use Rattle.column_family.specs.History.{Stamped, newer_of, newest_of, last_of, stamped, inserted, is_older_than}
use Rattle.column_family.proofs.Kept.{one_row}
use Rattle.column_family.proofs.Options.{by_cases}
use Rattle.versions.specs.declared.range.RangeDeletion.{RangeDeletion}
use Rattle.store.specs.declared.part.Applied.{Applied}
use Rattle.store.specs.Part.{committed_of, history_of}
use Rattle.store.specs.Keeps.{IsRangeFrom, is_row_newer}
use Rattle.store.proofs.lists.Lists.{none_in_empty, contains_first, contains_rest, first_or_rest}
use Rattle.store.proofs.newest.Newer.{IsNoOlder, no_older_trans, first_no_older, second_no_older}
use Rattle.store.proofs.newest.Places.{same_bytes}

-- ---- stamps
same_time : (s t : StampValue) → is_eq (stamp_cmp s t) ≡ true → s.time ≡ t.time
same_time s t e = grind (arith, nat_tests)

same_node : (s t : StampValue) → is_eq (stamp_cmp s t) ≡ true → s.node ≡ t.node
same_node s t e = grind (arith, nat_tests)

pub same_stamp : (s t : StampValue) → is_eq (stamp_cmp s t) ≡ true → s ≡ t
same_stamp s t e =
    ap (λ n. record { time = n; node = s.node }) (same_time s t e) ∙ ap (λ n. record { time = t.time; node = n }) (same_node s t e)

neither_older : (s t : StampValue) → is_older s t ≡ false → is_older t s ≡ false → is_eq (stamp_cmp s t) ≡ true
neither_older s t h k = grind (arith, nat_tests)

-- neither is older: they are the same
pub level : (s t : StampValue) → is_older s t ≡ false → is_older t s ≡ false → s ≡ t
level s t h k = same_stamp s t (neither_older s t h k)

-- what is older than one is older than what is no older than that
pub older_through : (s t u : StampValue) → is_older s t ≡ true → is_older u t ≡ false → is_older s u ≡ true
older_through s t u h k = grind (arith, nat_tests)

pub older_twice : (s t u : StampValue) → is_older s t ≡ true → is_older t u ≡ true → is_older s u ≡ true
older_twice s t u h k = grind (arith, nat_tests)

-- ---- one batch
last_passes : (q : Change → Bool) (cs : List Change) (m : Mutation) → last_of q cs ≡ Some m → (c : Change) × Contains cs c × (q c ≡ true) × (c.mutation ≡ m)
last_passes q [] m e = absurd (cc)
last_passes q (c ∷ cs) m e = go (last_passes q cs m) (last_of q cs) refl e
  where
    here : (b : Bool) → q c ≡ b → (if b then Some c.mutation else None) ≡ Some m → (d : Change) × Contains (c ∷ cs) d × (q d ≡ true) × (d.mutation ≡ m)
    here true is f = let same : c.mutation ≡ m = cc in (c, contains_first c cs, is, same)
    here false is f = absurd (cc)

    go : (last_of q cs ≡ Some m → (d : Change) × Contains cs d × (q d ≡ true) × (d.mutation ≡ m)) → (o : Option Mutation) → last_of q cs ≡ o
        → option_or o (if q c then Some c.mutation else None) ≡ Some m → (d : Change) × Contains (c ∷ cs) d × (q d ≡ true) × (d.mutation ≡ m)
    go more None is f = here (q c) refl f
    go more (Some k) is f = let d = more (is ∙ f) in (d.0, contains_rest c d.0 cs d.1, d.2, d.3)

some_last : (q : Change → Bool) (cs : List Change) (c : Change) → Contains cs c → q c ≡ true → (m : Mutation) × (last_of q cs ≡ Some m)
some_last q [] c has is = absurd (none_in_empty c has)
some_last q (d ∷ cs) c has is = elim (first_or_rest d c cs has) [
  | inl here ↦ own (last_of q cs) (ap q here ∙ is)
  | inr there ↦ (let m = some_last q cs c there is in (m.0, ap (λ (o : Option Mutation). option_or o (if q d then Some d.mutation else None)) m.1))
]
  where
    own : (o : Option Mutation) → q d ≡ true → (m : Mutation) × (option_or o (if q d then Some d.mutation else None) ≡ Some m)
    own None e = (d.mutation, rw e refl)
    own (Some k) e = (k, refl)

-- ---- all parts
-- the newest that passes a test is of a change of some part
pub newest_passes : (q : Change → Bool) (applied : List Applied) (y : Stamped) → newest_of q (history_of applied) ≡ Some y
    → (a : Applied) × (c : Change) × Contains applied a × (a.stamp ≡ y.stamp) × (a.commit ≡ y.commit) × Contains a.part.batch c × (q c ≡ true) × (c.mutation ≡ y.mutation)
newest_passes q [] y e = absurd (cc)
newest_passes q (x ∷ rest) y e = go (newest_passes q rest y) (last_of q x.part.batch) refl (newest_of q (history_of rest)) refl e
  where
    Found : List Applied → Type 0
    Found applied =
        (a : Applied) × (c : Change) × Contains applied a × (a.stamp ≡ y.stamp) × (a.commit ≡ y.commit) × Contains a.part.batch c × (q c ≡ true) × (c.mutation ≡ y.mutation)

    later : Found rest → Found (x ∷ rest)
    later f = (f.0, f.1, contains_rest x f.0 rest f.2, f.3, f.4, f.5, f.6, f.7)

    here : (m : Mutation) → last_of q x.part.batch ≡ Some m → Some (stamped (committed_of x) m) ≡ Some y → Found (x ∷ rest)
    here m is f =
        let same : stamped (committed_of x) m ≡ y = cc in
        let c = last_passes q x.part.batch m is in
        (x, c.0, contains_first x rest, ap (λ (z : Stamped). z.stamp) same, ap (λ (z : Stamped). z.commit) same, c.1, c.2, c.3 ∙ ap (λ (z : Stamped). z.mutation) same)

    go : (newest_of q (history_of rest) ≡ Some y → Found rest) → (o : Option Mutation) → last_of q x.part.batch ≡ o → (n : Option Stamped) → newest_of q (history_of rest) ≡ n
        → newer_of (option_map (stamped (committed_of x)) o) n ≡ Some y → Found (x ∷ rest)
    go more None is n at f = later (more (at ∙ f))
    go more (Some m) is None at f = here m is f
    go more (Some m) is (Some z) at f =
        by_cases (is_older x.stamp z.stamp)
        (λ lt. later (more (at ∙ (rw lt at f))))
        (λ ge. here m is (rw ge at f))

-- the newest that passes a test is no older than any change that does
pub no_older_than : (q : Change → Bool) (applied : List Applied) (a : Applied) (c : Change) → Contains applied a → Contains a.part.batch c → q c ≡ true
    → IsNoOlder (newest_of q (history_of applied)) (Some (stamped (committed_of a) c.mutation))
no_older_than q [] a c has own is = absurd (none_in_empty a has)
no_older_than q (x ∷ rest) a c has own is = elim (first_or_rest x a rest has) [
  | inl here ↦
      (let m = some_last q a.part.batch c own is in
      let last : last_of q x.part.batch ≡ Some m.0 = ap (λ (b : Applied). last_of q b.part.batch) here ∙ m.1 in
      let first = first_no_older (option_map (stamped (committed_of x)) (last_of q x.part.batch)) (newest_of q (history_of rest)) in
      let than : IsNoOlder (newest_of q (history_of (x ∷ rest))) (Some (stamped (committed_of x) m.0)) =
      subst (λ (o : Option Mutation). IsNoOlder (newest_of q (history_of (x ∷ rest))) (option_map (stamped (committed_of x)) o)) last first in
      stamp_alone (newest_of q (history_of (x ∷ rest))) (stamped (committed_of x) m.0) (stamped (committed_of a) c.mutation) (ap (λ (b : Applied). b.stamp) here) than)
  | inr there ↦
      no_older_trans (newest_of q (history_of (x ∷ rest))) (newest_of q (history_of rest)) (Some (stamped (committed_of a) c.mutation))
      (second_no_older (option_map (stamped (committed_of x)) (last_of q x.part.batch)) (newest_of q (history_of rest)))
      (no_older_than q rest a c there own is)
]
  where
    stamp_alone : (o : Option Stamped) (y z : Stamped) → y.stamp ≡ z.stamp → IsNoOlder o (Some y) → IsNoOlder o (Some z)
    stamp_alone None y z e h = h
    stamp_alone (Some x) y z e h = ap (is_older x.stamp) (sym e) ∙ h

-- a wider test has no older newest one
pub no_older_wider : (p q : Change → Bool) → ((c : Change) → p c ≡ true → q c ≡ true) → (applied : List Applied)
    → IsNoOlder (newest_of q (history_of applied)) (newest_of p (history_of applied))
no_older_wider p q wider applied = go (newest_of p (history_of applied)) refl
  where
    go : (o : Option Stamped) → newest_of p (history_of applied) ≡ o → IsNoOlder (newest_of q (history_of applied)) o
    go None is = tt
    go (Some y) is =
        let f = newest_passes p applied y is in
        bring f.0 f.1.mutation (newest_of q (history_of applied)) f.3 (no_older_than q applied f.0 f.1 f.2 f.5 (wider f.1 f.6))
      where
        bring : (a : Applied) (m : Mutation) (o : Option Stamped) → a.stamp ≡ y.stamp → IsNoOlder o (Some (stamped (committed_of a) m)) → IsNoOlder o (Some y)
        bring a m None e h = h
        bring a m (Some x) e h = ap (is_older x.stamp) (sym e) ∙ h

-- what is older than another is older than what is no older than that
pub older_still : (s : StampValue) (o : Option Stamped) (y : Stamped) → IsNoOlder o (Some y) → is_older s y.stamp ≡ true → is_older_than o s ≡ true
older_still s None y h lt = absurd h
older_still s (Some x) y h lt = older_through s y.stamp x.stamp lt h

-- where a part's deletion of the row is newer, the newest is
pub row_newer : (applied : List Applied) (r : Row) (s : StampValue) (a : Applied) (c : Change) → Contains applied a → Contains a.part.batch c → is_row_deletion r c ≡ true
    → is_older s a.stamp ≡ true → is_row_newer applied r s ≡ true
row_newer applied r s a c has own is lt =
    older_still s (newest_of (is_row_deletion r) (history_of applied)) (stamped (committed_of a) c.mutation) (no_older_than (is_row_deletion r) applied a c has own is) lt

-- of more parts the newest deletion of the row is no older
pub row_newer_more : (xs ys : List Applied) (r : Row) (s : StampValue) → ((a : Applied) → Contains xs a → Contains ys a) → is_row_newer xs r s ≡ true → is_row_newer ys r s ≡ true
row_newer_more xs ys r s more e = go (newest_of (is_row_deletion r) (history_of xs)) refl e
  where
    go : (o : Option Stamped) → newest_of (is_row_deletion r) (history_of xs) ≡ o → is_older_than o s ≡ true → is_row_newer ys r s ≡ true
    go None is e = absurd (cc)
    go (Some y) is e =
        let p = newest_passes (is_row_deletion r) xs y is in
        row_newer ys r s p.0 p.1 (more p.0 p.2) p.5 p.6 (ap (is_older s) p.3 ∙ e)

-- ---- deletions that strike a column
-- a deletion of its row, or of a range that has it
pub strike_kind : (m : Mutation) (n : List ℕ) → (deletes_row m || ranges_over m n) ≡ true
    → (deletes_row m ≡ true) ⊎ ((s : List ℕ) × (f : List ℕ) × (m ≡ DeleteRange s f) × (is_between s f n ≡ true))
strike_kind (Insert a v) n e = absurd (cc)
strike_kind (DeleteColumn a) n e = absurd (cc)
strike_kind DeleteRow n e = inl refl
strike_kind (DeleteRange s f) n e = inr (s, f, refl, e)

pub strike_deletes : (m : Mutation) (n : List ℕ) → (deletes_row m || ranges_over m n) ≡ true → inserted m ≡ None
strike_deletes (Insert a v) n e = absurd (cc)
strike_deletes (DeleteColumn a) n e = absurd (cc)
strike_deletes DeleteRow n e = refl
strike_deletes (DeleteRange s f) n e = refl

pub own_row : (r : Row) → is_same_row r r ≡ true
own_row r = rw (same_bytes r.key, same_bytes r.family) refl

-- ---- deletions of ranges that came from a part
-- the deletion of a range that a part leaves
abbrev pub range_by : Applied → List ℕ → List ℕ → RangeDeletion
range_by a s f = record { stamp = a.stamp; evt = a.commit; start = s; finish = f; writer = a.part.writer }

-- each that a part's change deletes came from it
pub range_left : (applied : List Applied) (r : Row) (a : Applied) (c : Change) (s f : List ℕ) → Contains applied a → Contains a.part.batch c
    → is_same_row r c.row ≡ true → c.mutation ≡ DeleteRange s f → IsRangeFrom applied r (range_by a s f)
range_left applied r a c s f has own row is =
    let same : c ≡ record { row = r; mutation = DeleteRange s f } =
    ap (λ (k : Row). record { row = k; mutation = c.mutation }) (sym (one_row r c.row row)) ∙ ap (λ (m : Mutation). record { row = r; mutation = m }) is in
    (a, has, refl, refl, refl, subst (Contains a.part.batch) same own)

-- and its change is one of that part
pub range_change : (applied : List Applied) (r : Row) (x : RangeDeletion) → IsRangeFrom applied r x
    → (a : Applied) × Contains applied a × (a.stamp ≡ x.stamp) × Contains a.part.batch (record { row = r; mutation = DeleteRange x.start x.finish }) × (a.commit ≡ x.evt)
range_change applied r x (a, has, stamp, commit, writer, own) = (a, has, stamp, own, commit)
