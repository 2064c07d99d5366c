-- Since when the deletions of ranges of a row are seen that have an asked column.
use Rattle.std.proofs.Common.{◌≡◌, ◌∙◌, sym, ap, refl, ℕ, ◌≤◌, inl, inr, Bool, true, false, not, ◌&&◌, ◌||◌, List, [], ◌∷◌, map, if◌then◌else◌, arith}
use Rattle.std.specs.Prelude.{filter, Contains}
use Rattle.std.specs.List.{list_any}
use Rattle.column_family.specs.declared.batch.Row.{Row}
use Rattle.column_family.specs.declared.batch.Change.{Change}
use Rattle.column_family.specs.declared.batch.Mutation.{Mutation}
use Rattle.column_family.specs.declared.batch.Mutation.TheVariants.{Insert, DeleteColumn, DeleteRow, DeleteRange}
use Rattle.column_family.specs.Location.{is_same_row, deletes_range, is_row_deletion}
use Rattle.column_family.specs.Normal.{IsInOrderOf}
use Rattle.column_family.proofs.Leaving.{none_follows, order_of_rest, unasked}
use Rattle.column_family.proofs.Options.{both_true, both_hold}
use Rattle.slice.specs.declared.predicate.Predicate.{Predicate}
use Rattle.slice.specs.Meeting.{asks_between}
use Rattle.versions.specs.declared.range.RangeDeletion.{RangeDeletion}
use Rattle.store.specs.declared.part.Applied.{Applied}
use Rattle.store.specs.Part.{committed_of, history_of, asks_range, leaves_asked, range_evt, greatest_of}
use Rattle.store.specs.Keeps.{AreApart, IsRangeFrom, is_row_newer}
use Rattle.store.specs.Struck.{evt_asked}
use Rattle.store.proofs.lists.Lists.{none_in_empty, contains_first, contains_rest, first_or_rest, kept, kept_only, any_has, any_found, not_true, mapped, mapped_only}
use Rattle.store.proofs.newest.Apart.{normal_part}
use Rattle.store.proofs.newest.Passing.{own_row, range_change}

-- ---- the greatest of numbers
pub at_least_greatest : (ns : List ℕ) (n : ℕ) → Contains ns n → n ≤ greatest_of ns
at_least_greatest [] n has = absurd (none_in_empty n has)
at_least_greatest (m ∷ ns) n has = elim (first_or_rest m n ns has) [
  | inl here ↦ omega (arith, here)
  | inr there ↦ (let le = at_least_greatest ns n there in omega (arith, le))
]

pub greatest_at_most : (most : ℕ) (ns : List ℕ) → ((n : ℕ) → Contains ns n → n ≤ most) → greatest_of ns ≤ most
greatest_at_most most [] each = omega arith
greatest_at_most most (n ∷ ns) each =
    let first = each n (contains_first n ns) in
    let rest = greatest_at_most most ns (λ m has. each m (contains_rest n m ns has)) in
    omega (arith, first, rest)

pub evt_at_most : (p : Predicate) (xs : List RangeDeletion) (x : RangeDeletion) → Contains xs x → asks_between p x.start x.finish ≡ true → x.evt ≤ evt_asked p xs
evt_at_most p xs x has asked =
    at_least_greatest (map (λ (y : RangeDeletion). y.evt) (filter (λ y. asks_between p y.start y.finish) xs)) x.evt
    (mapped (λ (y : RangeDeletion). y.evt) (filter (λ y. asks_between p y.start y.finish) xs) x
    (kept (λ (y : RangeDeletion). asks_between p y.start y.finish) xs x has asked))

-- ---- of a batch in normal form each deletion of a range counts
asks_of_range : (p : Predicate) (m : Mutation) → asks_range p m ≡ true → deletes_range m ≡ true
asks_of_range p (Insert n v) h = absurd (cc)
asks_of_range p (DeleteColumn n) h = absurd (cc)
asks_of_range p DeleteRow h = absurd (cc)
asks_of_range p (DeleteRange s f) h = refl

asks_kind : (p : Predicate) (m : Mutation) → asks_range p m ≡ true → (s : List ℕ) × (e : List ℕ) × (m ≡ DeleteRange s e) × (asks_between p s e ≡ true)
asks_kind p (Insert n v) h = absurd (cc)
asks_kind p (DeleteColumn n) h = absurd (cc)
asks_kind p DeleteRow h = absurd (cc)
asks_kind p (DeleteRange s e) h = (s, e, refl, h)

asks_of_kind : (p : Predicate) (m : Mutation) (s e : List ℕ) → m ≡ DeleteRange s e → asks_between p s e ≡ true → asks_range p m ≡ true
asks_of_kind p m s e is asked = ap (asks_range p) is ∙ asked

ordered_asked : (r : Row) (p : Predicate) (batch cs : List Change) → IsInOrderOf batch cs → leaves_asked r p cs ≡ list_any (λ c. is_same_row r c.row && asks_range p c.mutation) cs
ordered_asked r p batch [] h = refl
ordered_asked r p batch (c ∷ cs) h =
    ap (λ (x : Bool). x || leaves_asked r p cs)
    (unasked (is_same_row r c.row) (asks_range p c.mutation) (list_any (is_row_deletion r) cs) (λ s o. none_follows batch r c cs h s (asks_of_range p c.mutation o)))
    ∙ ap (λ (x : Bool). (is_same_row r c.row && asks_range p c.mutation) || x) (ordered_asked r p batch cs (order_of_rest batch c cs h))

-- ---- of parts
-- a part deletes a range of the row that has an asked column, and no newer part the row
pub evt_of_part : (applied : List Applied) (r : Row) (p : Predicate) (a : Applied) (c : Change) (s e : List ℕ) → AreApart applied → Contains applied a → Contains a.part.batch c
    → is_same_row r c.row ≡ true → c.mutation ≡ DeleteRange s e → is_row_newer applied r a.stamp ≡ false → asks_between p s e ≡ true
    → a.commit ≤ greatest_of (map (range_evt (history_of applied) r p) (history_of applied))
evt_of_part applied r p a c s e apart has own row is stands asked =
    let left : leaves_asked r p a.part.batch ≡ true =
    ordered_asked r p a.part.batch a.part.batch (normal_part applied apart a has)
    ∙ any_has (λ (d : Change). is_same_row r d.row && asks_range p d.mutation) a.part.batch c own
    (both_hold (is_same_row r c.row) (asks_range p c.mutation) row (asks_of_kind p c.mutation s e is asked)) in
    let evt : range_evt (history_of applied) r p (committed_of a) ≡ a.commit = rw (left, stands) refl in
    let le = at_least_greatest (map (range_evt (history_of applied) r p) (history_of applied)) (range_evt (history_of applied) r p (committed_of a))
    (mapped (range_evt (history_of applied) r p) (history_of applied) (committed_of a) (mapped committed_of applied a has)) in
    omega (arith, le, evt)

-- what bounds each such part bounds them all
pub asked_evt_below : (applied : List Applied) (r : Row) (p : Predicate) (most : ℕ) → AreApart applied
    → ((a : Applied) (c : Change) (s e : List ℕ) → Contains applied a → Contains a.part.batch c → is_same_row r c.row ≡ true → c.mutation ≡ DeleteRange s e
    → is_row_newer applied r a.stamp ≡ false → asks_between p s e ≡ true → a.commit ≤ most)
    → greatest_of (map (range_evt (history_of applied) r p) (history_of applied)) ≤ most
asked_evt_below applied r p most apart each =
    greatest_at_most most (map (range_evt (history_of applied) r p) (history_of applied))
    (λ n has.
    let k = mapped_only (range_evt (history_of applied) r p) (history_of applied) n has in
    let a = mapped_only committed_of applied k.0 k.1 in
    let same : range_evt (history_of applied) r p (committed_of a.0) ≡ n = ap (range_evt (history_of applied) r p) a.2 ∙ k.2 in
    let le = one a.0 a.1 (leaves_asked r p a.0.part.batch && not (is_row_newer applied r a.0.stamp)) refl in
    omega (arith, same, le))
  where
    one : (a : Applied) → Contains applied a → (b : Bool) → (leaves_asked r p a.part.batch && not (is_row_newer applied r a.stamp)) ≡ b → (if b then a.commit else 0) ≤ most
    one a has false is = omega arith
    one a has true is =
        let b = both_true (leaves_asked r p a.part.batch) (not (is_row_newer applied r a.stamp)) is in
        let c = any_found (λ (d : Change). is_same_row r d.row && asks_range p d.mutation) a.part.batch
        (sym (ordered_asked r p a.part.batch a.part.batch (normal_part applied apart a has)) ∙ b.0) in
        let g = both_true (is_same_row r c.0.row) (asks_range p c.0.mutation) c.2 in
        let k = asks_kind p c.0.mutation g.1 in
        each a c.0 k.0 k.1 has c.1 g.0 k.2 (not_true (is_row_newer applied r a.stamp) b.1) k.3

-- deletions of ranges that come from parts are no later than these
pub asked_evt_above : (applied : List Applied) (r : Row) (p : Predicate) (xs : List RangeDeletion) → AreApart applied
    → ((x : RangeDeletion) → Contains xs x → IsRangeFrom applied r x × (is_row_newer applied r x.stamp ≡ false))
    → evt_asked p xs ≤ greatest_of (map (range_evt (history_of applied) r p) (history_of applied))
asked_evt_above applied r p xs apart each =
    greatest_at_most (greatest_of (map (range_evt (history_of applied) r p) (history_of applied))) (map (λ (x : RangeDeletion). x.evt) (filter (λ x. asks_between p x.start x.finish) xs))
    (λ n has.
    let m = mapped_only (λ (x : RangeDeletion). x.evt) (filter (λ x. asks_between p x.start x.finish) xs) n has in
    let k = kept_only (λ (x : RangeDeletion). asks_between p x.start x.finish) xs m.0 m.1 in
    let e = each m.0 k.0 in
    let own = m.2 in
    let c = range_change applied r m.0 e.0 in
    let le = evt_of_part applied r p c.0 (record { row = r; mutation = DeleteRange m.0.start m.0.finish }) m.0.start m.0.finish apart c.1 c.3 (own_row r) refl
    (ap (is_row_newer applied r) c.2 ∙ e.1) k.1 in
    omega (arith, own, le, c.4))
