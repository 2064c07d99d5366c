-- What is seen of a row in a store is right by all that the store keeps.
use Rattle.std.proofs.Common.{◌≡◌, ◌∙◌, sym, ap, subst, refl, ℕ, zero, ◌≤◌, max, inl, inr, true, false, not, ◌&&◌, nat_le, List, [], ◌∷◌, Option, Some, None, option_map, arith}
use Rattle.std.specs.Prelude.{Contains, slice_get, ◌↔◌}
use Rattle.std.proofs.lemmas.Bool.Decides.{nat_tests}
use Rattle.column_family.specs.declared.batch.Row.{Row}
use Rattle.column_family.specs.History.{Stamped, newest_of, is_older_than}
use Rattle.column_family.specs.Places.{row_cmp}
use Rattle.column_family.proofs.Options.{by_cases, both_true, both_hold}
use Rattle.slice.specs.declared.predicate.Predicate.{Predicate}
use Rattle.versions.specs.declared.version.Version.{Version}
use Rattle.versions.specs.declared.range.RangeDeletion.{RangeDeletion}
use Rattle.versions.specs.Chain.{at_of}
use Rattle.versions.proofs.Members.{seen_is_contained, placed_is_contained}
use Rattle.store.specs.declared.part.Applied.{Applied}
use Rattle.store.specs.declared.part.Part.{Part}
use Rattle.store.specs.declared.sight.Moment.{Moment}
use Rattle.store.specs.declared.sight.Moment.TheVariants.{Now, At}
use Rattle.store.specs.Part.{history_of, applied_by, IsRightPart, IsNewestPart}
use Rattle.store.specs.Stored.{Place, StoreValue, held_by, no_row, chain_at, ranges_in, is_at}
use Rattle.store.specs.Keeps.{stamped_of, IsFrom, IsRangeFrom, is_row_newer, Keeps}
use Rattle.store.specs.Sight.{sight_of}
use Rattle.versions.specs.Ranges.{is_under}
use Rattle.store.specs.Struck.{is_range_seen, standing, ranges_seen, IsPartUnder}
use Rattle.store.proofs.lists.Lists.{kept, kept_only, none_in_empty, first_or_rest, not_true, not_false}
use Rattle.store.proofs.newest.Apart.{apart_by}
use Rattle.store.proofs.seen.View.{IsView, under_by, view_part}

pub seen_by : (xs : List Version) (t : ℕ) (v : Version) → at_of xs t ≡ Some v → nat_le v.evt t ≡ true
seen_by [] t v e = absurd (cc)
seen_by (x ∷ xs) t v e =
    by_cases (nat_le x.evt t)
    (λ le. let f : Some x ≡ Some v = rw le at e in let same : x ≡ v = cc in ap (λ (u : Version). nat_le u.evt t) (sym same) ∙ le)
    (λ gt. seen_by xs t v (rw gt at e))

-- a version that is seen by a time comes from what was applied by then
pub from_by : (all : List Applied) (t : ℕ) (v : Version) → nat_le v.evt t ≡ true → IsFrom all v → IsFrom (applied_by t all) v
from_by all t v le (a, has, stamp, commit, writer) =
    (a, kept (λ (b : Applied). nat_le b.commit t) all a has (ap (λ (n : ℕ). nat_le n t) commit ∙ le), stamp, commit, writer)

-- a deletion of a range that is seen by a time comes from what was applied by then
pub range_from_by : (all : List Applied) (t : ℕ) (r : Row) (x : RangeDeletion) → nat_le x.evt t ≡ true → IsRangeFrom all r x → IsRangeFrom (applied_by t all) r x
range_from_by all t r x le (a, has, stamp, commit, writer, at) =
    (a, kept (λ (b : Applied). nat_le b.commit t) all a has (ap (λ (n : ℕ). nat_le n t) commit ∙ le), stamp, commit, writer, at)

-- and is seen by then
pub range_by_then : (all : List Applied) (t : ℕ) (r : Row) (x : RangeDeletion) → IsRangeFrom (applied_by t all) r x → IsRangeFrom all r x × (nat_le x.evt t ≡ true)
range_by_then all t r x (a, has, stamp, commit, writer, at) =
    let k = kept_only (λ (b : Applied). nat_le b.commit t) all a has in
    ((a, k.0, stamp, commit, writer, at), ap (λ (n : ℕ). nat_le n t) (sym commit) ∙ k.1)

-- what is seen of the row's deletion tells whether a newer one was applied
row_seen : (applied : List Applied) (r : Row) (d : Option Version) (x : RangeDeletion) → option_map (stamped_of None) d ≡ newest_of (is_at r None) (history_of applied)
    → is_under d x ≡ is_row_newer applied r x.stamp
row_seen applied r d x is = under_by d x ∙ ap (λ (o : Option Stamped). is_older_than o x.stamp) is

-- the deletions of ranges that are seen of a row in a store are those that count by what was applied
pub ranges_seen_at : (s : StoreValue) (all applied : List Applied) (r : Row) (m : Moment) (d : Option Version) (x : RangeDeletion) → Keeps s all
    → option_map (stamped_of None) d ≡ newest_of (is_at r None) (history_of applied)
    → (is_range_seen m x ≡ true → IsRangeFrom all r x → IsRangeFrom applied r x)
    → (IsRangeFrom applied r x → is_row_newer applied r x.stamp ≡ false → Contains (ranges_in s.rows r).ranges x × (is_range_seen m x ≡ true))
    → Contains (standing m d (ranges_in s.rows r).ranges) x ↔ (IsRangeFrom applied r x × (is_under d x ≡ false))
ranges_seen_at s all applied r m d x k is then_from then_held = (
  λ has.
      let q = kept_only (λ (y : RangeDeletion). is_range_seen m y && not (is_under d y)) (ranges_in s.rows r).ranges x has in
      let b = both_true (is_range_seen m x) (not (is_under d x)) q.1 in
      (then_from b.0 (k.ranges_from r x q.0), not_true (is_under d x) b.1),
  λ has.
      let h = then_held has.0 (sym (row_seen applied r d x is) ∙ has.1) in
      kept (λ (y : RangeDeletion). is_range_seen m y && not (is_under d y)) (ranges_in s.rows r).ranges x h.0
      (both_hold (is_range_seen m x) (not (is_under d x)) h.1 (not_false (is_under d x) has.1)),
)

view_at : (s : StoreValue) (all : List Applied) (r : Row) (t : ℕ) → Keeps s all → s.low ≤ t → IsView (applied_by t all) r (λ q. at_of (chain_at s.rows r q).versions t) (ranges_seen (At t) (held_by row_cmp no_row s.rows r))
view_at s all r t k low = record {
  apart = apart_by t all k.apart;
  newest_there = λ q. k.seen r q t low;
  from = λ q v e. from_by all t v (seen_by (chain_at s.rows r q).versions t v e) (k.from r q v (seen_is_contained (chain_at s.rows r q).versions t v e));
  ranges = λ x.
      ranges_seen_at s all (applied_by t all) r (At t) (at_of (chain_at s.rows r None).versions t) x k (k.seen r None t low)
      (λ le from. range_from_by all t r x le from)
      (λ from stands. (k.ranges r t x low from stands, (range_by_then all t r x from).1));
}

-- what is seen of a row at a time, from the horizon on, is right at the time
pub part_at : (s : StoreValue) (all : List Applied) (r : Row) (p : Predicate) (t : ℕ) (part : Part) → Keeps s all → s.low ≤ t
    → IsPartUnder (sight_of (At t) (held_by row_cmp no_row s.rows r)) (ranges_seen (At t) (held_by row_cmp no_row s.rows r)) p part → IsRightPart all r p t part
part_at s all r p t part k low seen =
    (view_part (applied_by t all) r (sight_of (At t) (held_by row_cmp no_row s.rows r)) (ranges_seen (At t) (held_by row_cmp no_row s.rows r)) p part (view_at s all r t k low) seen).0

-- a time at which all is committed
last_commit : List Applied → ℕ
last_commit [] = 0
last_commit (a ∷ all) = max a.commit (last_commit all)

not_after_last : (all : List Applied) (a : Applied) → Contains all a → a.commit ≤ last_commit all
unfolding last_commit
not_after_last [] a has = absurd (none_in_empty a has)
not_after_last (x ∷ all) a has = elim (first_or_rest x a all has) [
  | inl here ↦ (let same : x.commit ≡ a.commit = ap (λ (b : Applied). b.commit) here in omega (arith, same))
  | inr there ↦ (let le = not_after_last all a there in omega (arith, le))
]

all_by : (t : ℕ) (all : List Applied) → last_commit all ≤ t → applied_by t all ≡ all
unfolding last_commit
all_by t [] le = refl
all_by t (a ∷ all) le =
    let here : nat_le a.commit t ≡ true = grind (arith, nat_tests, le) in
    rw here (ap (λ (xs : List Applied). a ∷ xs) (all_by t all (omega (arith, le))))

first_seen : (xs : List Version) (t : ℕ) → ((v : Version) → Contains xs v → nat_le v.evt t ≡ true) → slice_get xs zero ≡ at_of xs t
first_seen [] t seen = refl
first_seen (x ∷ xs) t seen = rw (seen x (zero, omega arith, refl)) refl

view_now : (s : StoreValue) (all : List Applied) (r : Row) → Keeps s all → IsView all r (λ q. slice_get (chain_at s.rows r q).versions 0) (ranges_seen Now (held_by row_cmp no_row s.rows r))
view_now s all r k =
    let t = max s.low (last_commit all) in
    let seen : (q : Place) (v : Version) → Contains (chain_at s.rows r q).versions v → nat_le v.evt t ≡ true = λ q v has.
    (let a = k.from r q v has in
    let le = not_after_last all a.0 a.1 in
    ap (λ (n : ℕ). nat_le n t) (sym a.3) ∙ below a.0.commit s.low (last_commit all) le) in
    let every : applied_by t all ≡ all = all_by t all (omega arith) in
    let newest_there : (q : Place) → option_map (stamped_of q) (slice_get (chain_at s.rows r q).versions 0) ≡ newest_of (is_at r q) (history_of all) = λ q.
    (ap (option_map (stamped_of q)) (first_seen (chain_at s.rows r q).versions t (seen q))
    ∙ k.seen r q t (omega arith)
    ∙ ap (λ (applied : List Applied). newest_of (is_at r q) (history_of applied)) every) in
    record {
      apart = k.apart;
      newest_there = newest_there;
      from = λ q v e. k.from r q v (placed_is_contained (chain_at s.rows r q).versions 0 v e);
      ranges = λ x.
          ranges_seen_at s all all r Now (slice_get (chain_at s.rows r None).versions 0) x k (newest_there None) (λ le from. from)
          (λ from stands. (
            k.ranges r t x (omega arith) (subst (λ (applied : List Applied). IsRangeFrom applied r x) (sym every) from)
                (ap (λ (applied : List Applied). is_row_newer applied r x.stamp) every ∙ stands),
            refl,
          ));
    }
  where
    below : (n low last : ℕ) → n ≤ last → nat_le n (max low last) ≡ true
    below n low last le = grind (arith, nat_tests, le)

-- what is seen of a row by the newest versions is the part by them
pub part_now : (s : StoreValue) (all : List Applied) (r : Row) (p : Predicate) (part : Part) → Keeps s all
    → IsPartUnder (sight_of Now (held_by row_cmp no_row s.rows r)) (ranges_seen Now (held_by row_cmp no_row s.rows r)) p part → IsNewestPart all r p part
part_now s all r p part k seen =
    let h = view_part all r (sight_of Now (held_by row_cmp no_row s.rows r)) (ranges_seen Now (held_by row_cmp no_row s.rows r)) p part (view_now s all r k) seen in
    record { shown = h.0; evt = h.1 }
