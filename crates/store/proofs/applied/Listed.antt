-- The rows that a collection has to look at are listed, and no other row has anything to collect.
use Rattle.std.proofs.Common.{◌≡◌, ◌∙◌, refl, sym, ap, subst, ℕ, ◌≤◌, max, nat_lt, Bool, true, false, not, ◌&&◌, ◌||◌, List, [], ◌∷◌, ◌++◌, map, length, Option, Some, None, arith}
use Rattle.std.proofs.lemmas.Bool.Decides.{nat_tests}
use Rattle.std.proofs.lemmas.Cmp.{eq_by_cmp_equiv}
use Rattle.std.proofs.lemmas.List.Folds.{list_any-append}
use Rattle.std.proofs.lemmas.List.Kept.{Contains-dedup, Contains-from_dedup}
use Rattle.std.proofs.lemmas.List.Sorted.{list_any-IsPermutation}
use Rattle.std.specs.Prelude.{if◌then◌else◌, filter, unwrap_or, Contains}
use Rattle.std.specs.BTreeMap.{BTreeMap, get}
use Rattle.std.specs.Cmp.{IsEquivalence}
use Rattle.std.specs.List.{list_any, dedup}
use Rattle.std.specs.List.Sorted.{IsPermutation}
use Rattle.std.specs.Ordering.{is_eq, eq_by_cmp}
use Rattle.column_family.specs.declared.batch.Row.{Row}
use Rattle.column_family.proofs.RowOrder.{row_total, same_row}
use Rattle.column_family.specs.declared.batch.Mutation.{Mutation}
use Rattle.column_family.specs.Location.{is_same_row}
use Rattle.column_family.specs.Places.{is_listed, row_cmp}
use Rattle.column_family.proofs.Firsts.{row_test}
use Rattle.column_family.proofs.Kept.{one_row}
use Rattle.versions.specs.declared.version.Version.{Version}
use Rattle.versions.specs.declared.range.RangeDeletion.{RangeDeletion}
use Rattle.versions.specs.Chain.{Held, is_kept, kept_below, kept_from}
use Rattle.versions.specs.Ranges.{HeldRanges, is_under, hidden, kept_ranges}
use Rattle.version_gc.proofs.Collected.{at_kept}
use Rattle.store.specs.Stored.{Place, Chains, chain_of, chain_at, ranges_in, held_by, no_row, name_cmp, column_held, is_of_place, HaveKept, HaveKeptRanges}
use Rattle.store.specs.Crowded.{holds_more, is_crowded, is_crowded_in, AreShort, HaveNoRanges, AreListed}
use Rattle.store.proofs.lists.Lists.{any_found, any_has, same_if}
use Rattle.store.proofs.lists.Maps.{by_cases}

-- ---- rows of which no chain holds more than one version
one_at_most : (h : Held) → holds_more h ≡ false → length h.versions ≤ 1
one_at_most h few = grind (arith, nat_tests, few)

or_false : (a b : Bool) → (a || b) ≡ false → (a ≡ false) × (b ≡ false)
or_false true b e = absurd (cc)
or_false false b e = (refl, e)

column_short : (columns : List (List ℕ × Held)) (n : List ℕ) → list_any holds_more (map (λ e. e.1) columns) ≡ false → length (column_held columns n).versions ≤ 1
column_short [] n few = omega arith
column_short (e ∷ es) n few =
    let each = or_false (holds_more e.1) (list_any holds_more (map (λ x. x.1) es)) few in
    by_cases (is_eq (name_cmp n e.0))
    (λ here. rw here (one_at_most e.1 each.0))
    (λ there. rw there (column_short es n each.1))

-- of a row that isn't crowded neither a column nor the deletions hold more than one, and no range is held
abbrev has_ranges : Chains → Bool
has_ranges row = nat_lt 0 (length row.ranges.ranges)

abbrev HoldsFew : Chains → Type 0
HoldsFew row = (list_any holds_more (map (λ e. e.1) row.columns) ≡ false) × (holds_more row.deletions ≡ false) × (has_ranges row ≡ false)

holds_few : (row : Chains) → is_crowded row ≡ false → HoldsFew row
holds_few row few =
    let first = or_false (list_any holds_more (map (λ e. e.1) row.columns)) (holds_more row.deletions || has_ranges row) few in
    let rest = or_false (holds_more row.deletions) (has_ranges row) first.1 in
    (first.0, rest.0, rest.1)

pub row_short : (row : Chains) → is_crowded row ≡ false → (p : Place) → length (chain_of row p).versions ≤ 1
row_short row few None = one_at_most row.deletions (holds_few row few).1
row_short row few (Some n) = column_short row.columns n (holds_few row few).0

none_held : (xs : List RangeDeletion) → nat_lt 0 (length xs) ≡ false → xs ≡ []
none_held [] e = refl
none_held (x ∷ xs) e = absurd (grind (arith, nat_tests, e))

pub row_without : (row : Chains) → is_crowded row ≡ false → row.ranges.ranges ≡ []
row_without row few = none_held row.ranges.ranges (holds_few row few).2

-- a row of which nothing is held isn't crowded
pub none_crowded : (m : BTreeMap Row Chains) (k : Row) → get row_cmp m k ≡ None → is_crowded_in m.entries k ≡ false
none_crowded m k e = ap (λ (o : Option Chains). is_crowded (unwrap_or o no_row)) e

-- ---- the list, with one row more
listed_more : (rows : List Row) (row r : Row) → is_listed (rows ++ row ∷ []) r ≡ (is_listed rows r || is_eq (row_cmp row r))
listed_more rows row r =
    list_any-append (λ (s : Row). is_eq (row_cmp r s)) rows (row ∷ [])
    ∙ ap (λ (b : Bool). is_listed rows r || b) (or_none (is_eq (row_cmp r row)) ∙ (eq_by_cmp_equiv row_total).symm r row)
  where
    or_none : (b : Bool) → (b || false) ≡ b
    or_none true = refl
    or_none false = refl

-- that row is listed
pub pushed : (rows : List Row) (row r : Row) → is_listed (rows ++ row ∷ []) r ≡ (if is_eq (row_cmp row r) then true else is_listed rows r)
pushed rows row r = listed_more rows row r ∙ either_way (is_listed rows r) (is_eq (row_cmp row r))
  where
    either_way : (a b : Bool) → (a || b) ≡ (if b then true else a)
    either_way true true = refl
    either_way true false = refl
    either_way false true = refl
    either_way false false = refl

-- ---- the list, with each row once
turned : (a b : Row) → is_eq (row_cmp a b) ≡ is_eq (row_cmp b a)
turned a b = (eq_by_cmp_equiv row_total).symm a b

ties : (a b : Row) → is_same_row a b ≡ eq_by_cmp row_cmp a b
ties a b = sym (row_test b a) ∙ turned b a

one_row_each : IsEquivalence is_same_row
one_row_each =
    let known = eq_by_cmp_equiv row_total in
    record {
      refl = λ a. ties a a ∙ known.refl a;
      symm = λ a b. ties a b ∙ known.symm a b ∙ sym (ties b a);
      congr = λ a b c h. ties a c ∙ known.congr a b c (sym (ties a b) ∙ h) ∙ sym (ties b c);
    }

also : (p : Row → Bool) (xs ys : List Row) → ((x : Row) → Contains xs x → Contains ys x) → list_any p xs ≡ true → list_any p ys ≡ true
also p xs ys each e = let f = any_found p xs e in any_has p ys f.0 (each f.0 f.1) f.2

-- what is sorted and left in once lists the same rows
pub listed_once : (rows sorted : List Row) → IsPermutation rows sorted → (r : Row) → is_listed (dedup is_same_row sorted) r ≡ is_listed rows r
listed_once rows sorted permuted r =
    same_if _ _ (also (λ s. is_eq (row_cmp r s)) _ _ (λ x has. Contains-from_dedup is_same_row sorted x has))
    (also (λ s. is_eq (row_cmp r s)) _ _ (λ x has. Contains-dedup one_row_each one_row sorted x has))
    ∙ sym (list_any-IsPermutation (λ s. is_eq (row_cmp r s)) rows sorted permuted)

-- ---- a change lists its row, if it is crowded then
short_added : (l m : List Row) (olds news : List (Row × Chains)) (row : Row) (d : Mutation) (put : Row → Place → List Version)
    → ((r : Row) (p : Place) → (chain_at news r p).versions ≡ (if is_same_row r row && is_of_place p d then put r p else (chain_at olds r p).versions))
    → ((r : Row) → is_listed m r ≡ (if is_eq (row_cmp row r) then true else is_listed l r))
    → AreShort l olds → AreShort m news
short_added l m olds news row d put is added listed = λ r p not_listed.
    by_cases (is_eq (row_cmp row r))
    (λ same. let yes : is_listed m r ≡ true = added r ∙ rw same refl in absurd (cc))
    (λ other.
    let apart : is_same_row r row ≡ false = sym (row_test row r) ∙ other in
    let was : is_listed l r ≡ false = sym (added r ∙ rw other refl) ∙ not_listed in
    let stays : (chain_at news r p).versions ≡ (chain_at olds r p).versions = is r p ∙ rw apart refl in
    subst (λ (xs : List Version). length xs ≤ 1) (sym stays) (listed r p was))

short_unless : (l : List Row) (olds news : List (Row × Chains)) (row : Row) (d : Mutation) (put : Row → Place → List Version)
    → ((r : Row) (p : Place) → (chain_at news r p).versions ≡ (if is_same_row r row && is_of_place p d then put r p else (chain_at olds r p).versions))
    → ((p : Place) → is_of_place p d ≡ true → length (chain_at olds row p).versions ≤ 1 → length (chain_at news row p).versions ≤ 1)
    → AreShort l olds → AreShort l news
short_unless l olds news row d put is few listed = λ r p not_listed.
    by_cases (is_eq (row_cmp row r))
    (λ same.
    let own : is_same_row r row ≡ true = sym (row_test row r) ∙ same in
    by_cases (is_of_place p d)
    (λ at.
    let before : length (chain_at olds row p).versions ≤ 1 = subst (λ (s : Row). length (chain_at olds s p).versions ≤ 1) (sym (same_row row r same)) (listed r p not_listed) in
    subst (λ (s : Row). length (chain_at news s p).versions ≤ 1) (same_row row r same) (few p at before))
    (λ off.
    let stays : (chain_at news r p).versions ≡ (chain_at olds r p).versions = is r p ∙ rw (own, off) refl in
    subst (λ (xs : List Version). length xs ≤ 1) (sym stays) (listed r p not_listed)))
    (λ other.
    let apart : is_same_row r row ≡ false = sym (row_test row r) ∙ other in
    let stays : (chain_at news r p).versions ≡ (chain_at olds r p).versions = is r p ∙ rw apart refl in
    subst (λ (xs : List Version). length xs ≤ 1) (sym stays) (listed r p not_listed))

-- more rows are listed
short_more : (l m : List Row) (olds news : List (Row × Chains)) (row : Row) → ((r : Row) (p : Place) → (chain_at news r p).versions ≡ (chain_at olds r p).versions)
    → ((r : Row) → is_listed m r ≡ (if is_eq (row_cmp row r) then true else is_listed l r))
    → AreShort l olds → AreShort m news
short_more l m olds news row same added listed = λ r p not_listed.
    by_cases (is_eq (row_cmp row r))
    (λ own. let yes : is_listed m r ≡ true = added r ∙ rw own refl in absurd (cc))
    (λ other.
    let was : is_listed l r ≡ false = sym (added r ∙ rw other refl) ∙ not_listed in
    subst (λ (xs : List Version). length xs ≤ 1) (sym (same r p)) (listed r p was))

without_added : (l m : List Row) (olds news : List (Row × Chains)) (row : Row) → ((r : Row) → is_same_row r row ≡ false → (ranges_in news r).ranges ≡ (ranges_in olds r).ranges)
    → ((r : Row) → is_listed m r ≡ (if is_eq (row_cmp row r) then true else is_listed l r))
    → HaveNoRanges l olds → HaveNoRanges m news
without_added l m olds news row same added none = λ r not_listed.
    by_cases (is_eq (row_cmp row r))
    (λ own. let yes : is_listed m r ≡ true = added r ∙ rw own refl in absurd (cc))
    (λ other.
    let was : is_listed l r ≡ false = sym (added r ∙ rw other refl) ∙ not_listed in
    same r (sym (row_test row r) ∙ other) ∙ none r was)

without_same : (l : List Row) (olds news : List (Row × Chains)) → ((r : Row) → (ranges_in news r).ranges ≡ (ranges_in olds r).ranges) → HaveNoRanges l olds → HaveNoRanges l news
without_same l olds news same none = λ r not_listed. same r ∙ none r not_listed

-- by a change of a place
pub listed_added : (l m : List Row) (olds news : List (Row × Chains)) (row : Row) (d : Mutation) (put : Row → Place → List Version)
    → ((r : Row) (p : Place) → (chain_at news r p).versions ≡ (if is_same_row r row && is_of_place p d then put r p else (chain_at olds r p).versions))
    → ((r : Row) → ranges_in news r ≡ ranges_in olds r)
    → ((r : Row) → is_listed m r ≡ (if is_eq (row_cmp row r) then true else is_listed l r))
    → AreListed l olds → AreListed m news
listed_added l m olds news row d put is same added listed = (
  short_added l m olds news row d put is added listed.0,
  without_added l m olds news row (λ r other. ap (λ (h : HeldRanges). h.ranges) (same r)) added listed.1,
)

pub listed_unless : (l : List Row) (olds news : List (Row × Chains)) (row : Row) (d : Mutation) (put : Row → Place → List Version)
    → ((r : Row) (p : Place) → (chain_at news r p).versions ≡ (if is_same_row r row && is_of_place p d then put r p else (chain_at olds r p).versions))
    → ((r : Row) → ranges_in news r ≡ ranges_in olds r)
    → ((p : Place) → is_of_place p d ≡ true → length (chain_at olds row p).versions ≤ 1 → length (chain_at news row p).versions ≤ 1)
    → AreListed l olds → AreListed l news
listed_unless l olds news row d put is same few listed =
    (short_unless l olds news row d put is few listed.0, without_same l olds news (λ r. ap (λ (h : HeldRanges). h.ranges) (same r)) listed.1)

-- by a deletion of a range
pub listed_range : (l m : List Row) (olds news : List (Row × Chains)) (row : Row) → ((r : Row) (p : Place) → chain_at news r p ≡ chain_at olds r p)
    → ((r : Row) → is_same_row r row ≡ false → (ranges_in news r).ranges ≡ (ranges_in olds r).ranges)
    → ((r : Row) → is_listed m r ≡ (if is_eq (row_cmp row r) then true else is_listed l r))
    → AreListed l olds → AreListed m news
listed_range l m olds news row same ranges added listed = (
  short_more l m olds news row (λ r p. ap (λ (h : Held). h.versions) (same r p)) added listed.0,
  without_added l m olds news row ranges added listed.1,
)

-- by a list of the same rows
pub listed_alike : (l m : List Row) (rows : List (Row × Chains)) → ((r : Row) → is_listed m r ≡ is_listed l r) → AreListed l rows → AreListed m rows
listed_alike l m rows same listed = (λ r p not_listed. listed.0 r p (sym (same r) ∙ not_listed), λ r not_listed. listed.1 r (sym (same r) ∙ not_listed))

-- ---- rows that are collected one after the other
kept_below_twice : (t b : ℕ) (xs : List Version) → kept_below t b (kept_below t b xs) ≡ kept_below t b xs
kept_below_twice t b [] = refl
kept_below_twice t b (x ∷ xs) =
    by_cases (is_kept t b x.evt)
    (λ kept. rw kept (rw kept (ap (λ (ys : List Version). x ∷ ys) (kept_below_twice t x.evt xs))))
    (λ gone. rw gone (kept_below_twice t b xs))

kept_twice : (t : ℕ) (xs : List Version) → kept_from t (kept_from t xs) ≡ kept_from t xs
kept_twice t [] = refl
kept_twice t (x ∷ xs) = ap (λ (ys : List Version). x ∷ ys) (kept_below_twice t x.evt xs)

-- the versions, collected or not
abbrev pub if_collected : Bool → ℕ → List Version → List Version
if_collected b t xs = if b then kept_from t xs else xs

one_more : (own left : Bool) (t : ℕ) (xs : List Version) → if_collected left t (if_collected own t xs) ≡ if_collected (own || left) t xs
one_more true true t xs = kept_twice t xs
one_more true false t xs = refl
one_more false left t xs = refl

-- one row more is collected
pub collected_more : (t : ℕ) (os ls ns : List (Row × Chains)) (rows : List Row) (row : Row)
    → ((r : Row) (p : Place) → (chain_at ls r p).versions ≡ if_collected (is_listed rows r) t (chain_at os r p).versions)
    → ((r : Row) (p : Place) → (chain_at ns r p).versions ≡ if_collected (is_eq (row_cmp row r)) t (chain_at ls r p).versions)
    → (r : Row) (p : Place) → (chain_at ns r p).versions ≡ if_collected (is_listed (rows ++ row ∷ []) r) t (chain_at os r p).versions
collected_more t os ls ns rows row so_far step r p =
    step r p
    ∙ ap (if_collected (is_eq (row_cmp row r)) t) (so_far r p)
    ∙ one_more (is_listed rows r) (is_eq (row_cmp row r)) t (chain_at os r p).versions
    ∙ ap (λ (b : Bool). if_collected b t (chain_at os r p).versions) (sym (listed_more rows row r))

-- the deletions of ranges, collected or not
abbrev pub ranges_if_collected : Bool → ℕ → List Version → List RangeDeletion → List RangeDeletion
ranges_if_collected b t ds xs = if b then kept_ranges t ds xs else xs

hidden_still : (t : ℕ) (ds : List Version) (x : RangeDeletion) → hidden t (kept_from t ds) x ≡ hidden t ds x
hidden_still t ds x = ap (λ (o : Option Version). is_under o x) (at_kept t ds (max t x.evt) (omega arith))

filtered_twice : (p q : RangeDeletion → Bool) → ((x : RangeDeletion) → p x ≡ q x) → (xs : List RangeDeletion) → filter p (filter q xs) ≡ filter q xs
filtered_twice p q same [] = refl
filtered_twice p q same (x ∷ xs) =
    by_cases (q x)
    (λ yes. rw yes (rw (same x ∙ yes) (ap (λ (ys : List RangeDeletion). x ∷ ys) (filtered_twice p q same xs))))
    (λ no. rw no (filtered_twice p q same xs))

ranges_one_more : (own left : Bool) (t : ℕ) (ds : List Version) (xs : List RangeDeletion)
    → ranges_if_collected left t (if_collected own t ds) (ranges_if_collected own t ds xs) ≡ ranges_if_collected (own || left) t ds xs
ranges_one_more true true t ds xs =
    filtered_twice (λ x. not (hidden t (kept_from t ds) x)) (λ x. not (hidden t ds x)) (λ x. ap (λ (b : Bool). not b) (hidden_still t ds x)) xs
ranges_one_more true false t ds xs = refl
ranges_one_more false left t ds xs = refl

-- with one row more
pub ranges_collected_more : (t : ℕ) (os ls ns : List (Row × Chains)) (rows : List Row) (row : Row)
    → ((r : Row) (p : Place) → (chain_at ls r p).versions ≡ if_collected (is_listed rows r) t (chain_at os r p).versions)
    → ((r : Row) → (ranges_in ls r).ranges ≡ ranges_if_collected (is_listed rows r) t (chain_at os r None).versions (ranges_in os r).ranges)
    → ((r : Row) → (ranges_in ns r).ranges ≡ ranges_if_collected (is_eq (row_cmp row r)) t (chain_at ls r None).versions (ranges_in ls r).ranges)
    → (r : Row) → (ranges_in ns r).ranges ≡ ranges_if_collected (is_listed (rows ++ row ∷ []) r) t (chain_at os r None).versions (ranges_in os r).ranges
ranges_collected_more t os ls ns rows row places so_far step r =
    let ds = (chain_at os r None).versions in
    let xs = (ranges_in os r).ranges in
    step r
    ∙ ap (λ (ys : List Version). ranges_if_collected (is_eq (row_cmp row r)) t ys (ranges_in ls r).ranges) (places r None)
    ∙ ap (ranges_if_collected (is_eq (row_cmp row r)) t (if_collected (is_listed rows r) t ds)) (so_far r)
    ∙ ranges_one_more (is_listed rows r) (is_eq (row_cmp row r)) t ds xs
    ∙ ap (λ (b : Bool). ranges_if_collected b t ds xs) (sym (listed_more rows row r))

-- a row that isn't there has no deletion of a range to collect
pub no_ranges_collected : (t : ℕ) (m : BTreeMap Row Chains) (k : Row) → get row_cmp m k ≡ None
    → (r : Row) → (ranges_in m.entries r).ranges ≡ ranges_if_collected (is_eq (row_cmp k r)) t (chain_at m.entries r None).versions (ranges_in m.entries r).ranges
no_ranges_collected t m k none r =
    by_cases (is_eq (row_cmp k r))
    (λ same.
    let empty : (ranges_in m.entries r).ranges ≡ [] =
    subst (λ (s : Row). (ranges_in m.entries s).ranges ≡ []) (same_row k r same) (ap (λ (o : Option Chains). (unwrap_or o no_row).ranges.ranges) none) in
    rw (same, empty) refl)
    (λ other. rw other refl)

-- a row that isn't there has nothing to collect
pub none_collected : (t : ℕ) (m : BTreeMap Row Chains) (k : Row) → get row_cmp m k ≡ None
    → (r : Row) (p : Place) → (chain_at m.entries r p).versions ≡ if_collected (is_eq (row_cmp k r)) t (chain_at m.entries r p).versions
none_collected t m k none r p =
    by_cases (is_eq (row_cmp k r))
    (λ same.
    let empty : (chain_at m.entries r p).versions ≡ [] =
    subst (λ (s : Row). (chain_at m.entries s p).versions ≡ []) (same_row k r same) (ap (λ (o : Option Chains). (chain_of (unwrap_or o no_row) p).versions) none ∙ nothing p) in
    rw (same, empty) refl)
    (λ other. rw other refl)
  where
    nothing : (q : Place) → (chain_of no_row q).versions ≡ []
    nothing None = refl
    nothing (Some n) = refl

-- ---- after all of them
short_stays : (t : ℕ) (xs : List Version) → length xs ≤ 1 → kept_from t xs ≡ xs
short_stays t [] le = refl
short_stays t (x ∷ []) le = refl
short_stays t (x ∷ y ∷ xs) le = absurd (omega (arith, le))

-- the listed rows are collected
abbrev pub AreCollected : ℕ → List Row → List (Row × Chains) → List (Row × Chains) → Type 0
AreCollected t listed olds news =
    (r : Row) (p : Place) → (chain_at news r p).versions ≡ if_collected (is_listed listed r) t (chain_at olds r p).versions

abbrev pub AreRangesCollected : ℕ → List Row → List (Row × Chains) → List (Row × Chains) → Type 0
AreRangesCollected t listed olds news =
    (r : Row) → (ranges_in news r).ranges ≡ ranges_if_collected (is_listed listed r) t (chain_at olds r None).versions (ranges_in olds r).ranges

pub all_ranges_kept : (t : ℕ) (l : List Row) (olds news : List (Row × Chains)) → AreRangesCollected t l olds news → AreListed l olds → HaveKeptRanges t olds news
all_ranges_kept t l olds news collected listed r =
    collected r
    ∙ by_cases (is_listed l r)
    (λ yes. rw yes refl)
    (λ no. rw no (none_stays (ranges_in olds r).ranges (listed.1 r no)))
  where
    none_stays : (xs : List RangeDeletion) → xs ≡ [] → xs ≡ kept_ranges t (chain_at olds r None).versions xs
    none_stays xs e = rw e refl

pub all_kept : (t : ℕ) (l : List Row) (olds news : List (Row × Chains)) → AreCollected t l olds news → AreListed l olds → HaveKept t olds news
all_kept t l olds news collected listed r p =
    collected r p
    ∙ by_cases (is_listed l r)
    (λ yes. rw yes refl)
    (λ no. rw no (sym (short_stays t (chain_at olds r p).versions (listed.0 r p no))))

-- a row that the filter takes from the list isn't crowded
uncrowded : (f : Row → Bool) (rows : List Row) (r : Row) → is_listed (filter f rows) r ≡ false → is_listed rows r ≡ true → f r ≡ false
uncrowded f [] r gone has = absurd (cc)
uncrowded f (s ∷ rows) r gone has =
    by_cases (is_eq (row_cmp r s))
    (λ same.
    by_cases (f r)
    (λ stays.
    let kept : f s ≡ true = subst (λ (q : Row). f q ≡ true) (same_row r s same) stays in
    let here : is_listed (filter f (s ∷ rows)) r ≡ true = rw kept (rw same refl) in
    absurd (cc))
    (λ goes. goes))
    (λ other. later (f s) refl (λ none. uncrowded f rows r none (rw other at has)))
  where
    later : (b : Bool) → f s ≡ b → (is_listed (filter f rows) r ≡ false → f r ≡ false) → f r ≡ false
    later true e more = let rest = rw e at gone in more (or_false (is_eq (row_cmp r s)) (is_listed (filter f rows) r) rest).1
    later false e more = let rest = rw e at gone in more rest

crowded_short : (t : ℕ) (l m : List Row) (olds news : List (Row × Chains)) → m ≡ filter (is_crowded_in news) l → AreCollected t l olds news → AreShort l olds → AreShort m news
crowded_short t l m olds news is collected listed = λ r p not_listed.
    let gone : is_listed (filter (is_crowded_in news) l) r ≡ false = subst (λ (rows : List Row). is_listed rows r ≡ false) is not_listed in
    by_cases (is_listed l r)
    (λ yes. row_short (held_by row_cmp no_row news r) (uncrowded (is_crowded_in news) l r gone yes) p)
    (λ was_not.
    let stays : (chain_at news r p).versions ≡ (chain_at olds r p).versions = collected r p ∙ rw was_not refl in
    subst (λ (xs : List Version). length xs ≤ 1) (sym stays) (listed r p was_not))

crowded_without : (t : ℕ) (l m : List Row) (olds news : List (Row × Chains)) → m ≡ filter (is_crowded_in news) l → AreRangesCollected t l olds news → HaveNoRanges l olds → HaveNoRanges m news
crowded_without t l m olds news is collected none = λ r not_listed.
    let gone : is_listed (filter (is_crowded_in news) l) r ≡ false = subst (λ (rows : List Row). is_listed rows r ≡ false) is not_listed in
    by_cases (is_listed l r)
    (λ yes. row_without (held_by row_cmp no_row news r) (uncrowded (is_crowded_in news) l r gone yes))
    (λ was_not. collected r ∙ rw was_not (none r was_not))

pub crowded_listed : (t : ℕ) (l m : List Row) (olds news : List (Row × Chains)) → m ≡ filter (is_crowded_in news) l → AreCollected t l olds news
    → AreRangesCollected t l olds news → AreListed l olds → AreListed m news
crowded_listed t l m olds news is collected ranges listed =
    (crowded_short t l m olds news is collected listed.0, crowded_without t l m olds news is ranges listed.1)
