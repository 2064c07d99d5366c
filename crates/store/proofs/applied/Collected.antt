-- A store keeps what it kept where what can't be seen from its horizon on is dropped.
use Rattle.std.proofs.Common.{◌≡◌, ◌∙◌, refl, sym, ap, subst, ℕ, ◌+◌, ◌-◌, ◌≤◌, ◌<◌, max, false, not, List, [], ◌∷◌, map, length, Option, Some, None, option_map, arith}
use Rattle.std.specs.Prelude.{Contains, MatchOption}
use Rattle.std.specs.Map.{lookup}
use Rattle.std.specs.Option.{unwrap_or}
use Rattle.std.specs.Ordering.{is_eq}
use Rattle.std.specs.declared.cmp.Ordering.{Ordering}
use Rattle.std.proofs.lemmas.Map.Made.{lookup-map_values}
use Rattle.std.proofs.lemmas.Bool.Decides.{nat_tests}
use Rattle.logical_time.specs.Stamps.{is_older}
use Rattle.column_family.specs.History.{Stamped, is_older_than}
use Rattle.column_family.proofs.Options.{denied}
use Rattle.versions.specs.declared.version.Version.{Version}
use Rattle.versions.specs.declared.range.RangeDeletion.{RangeDeletion}
use Rattle.versions.specs.Chain.{Held, IsFalling, at_of, kept_from}
use Rattle.versions.specs.Newest.{IsNewestAt}
use Rattle.versions.specs.Ranges.{HeldRanges, is_under, hidden, kept_ranges}
use Rattle.versions.proofs.Kept.{falling_kept}
use Rattle.versions.proofs.Members.{seen_is_contained}
use Rattle.versions.proofs.Newest.{newest_at_is_greatest}
use Rattle.version_gc.proofs.Collected.{at_kept, kept_exactly}
use Rattle.store.specs.declared.part.Applied.{Applied}
use Rattle.store.specs.Stored.{Place, Chains, StoreValue, chain_of, chain_at, held_by, nothing_held, name_cmp, collected_held, collected_ranges, collected_row, ranges_in, HaveKept, HaveKeptRanges}
use Rattle.store.specs.Keeps.{stamped_of, Keeps}
use Rattle.store.proofs.lists.Lists.{kept as passes, kept_only, no_truth, not_false}
use Rattle.store.proofs.newest.Passing.{older_through}
use Rattle.store.proofs.seen.PartAt.{seen_by, range_by_then}
use Rattle.store.proofs.seen.View.{under_by}

-- ---- a chain, a row and rows after a collection
pub held_collected : (t : ℕ) (old new : Held) → new.versions ≡ kept_from t old.versions → new.room + length new.versions ≡ old.room + length old.versions → new ≡ collected_held t old
held_collected t old new versions room =
    let room' : new.room ≡ old.room + length old.versions - length (kept_from t old.versions) =
    (let long = ap length versions in omega (arith, long, room)) in
    same new.versions new.room (kept_from t old.versions) (old.room + length old.versions - length (kept_from t old.versions)) versions room'
  where
    held : List Version → ℕ → Held
    held xs n = record { versions = xs; room = n }

    same : (xs : List Version) (n : ℕ) (ys : List Version) (m : ℕ) → xs ≡ ys → n ≡ m → held xs n ≡ held ys m
    same xs n ys m e f = ap (λ (zs : List Version). held zs n) e ∙ ap (held ys) f

held_each : {K X : Type 0} (R : K → K → Ordering) (d : X) (g : X → X) → g d ≡ d → (es : List (K × X)) (q : K) → held_by R d (map (λ e. (e.0, g e.1)) es) q ≡ g (held_by R d es q)
held_each R d g none es q = ap (λ o. unwrap_or o d) (lookup-map_values g (λ k. is_eq (R q k)) es) ∙ inside (lookup (λ k. is_eq (R q k)) es)
  where
    inside : (o : Option _) → unwrap_or (option_map g o) d ≡ g (unwrap_or o d)
    inside None = sym none
    inside (Some x) = refl

pub row_collected : (t : ℕ) (r : Chains) (p : Place) → (chain_of (collected_row t r) p).versions ≡ kept_from t (chain_of r p).versions
row_collected t r None = refl
row_collected t r (Some n) = ap (λ (h : Held). h.versions) (held_each name_cmp nothing_held (collected_held t) refl r.columns n)

-- below no deletion of the row all deletions of ranges stay
all_stand : (t : ℕ) (xs : List RangeDeletion) → kept_ranges t [] xs ≡ xs
all_stand t [] = refl
all_stand t (x ∷ xs) = ap (λ (ys : List RangeDeletion). x ∷ ys) (all_stand t xs)

pub all_collected : (t : ℕ) (h : HeldRanges) → h ≡ collected_ranges t [] h
all_collected t h = same h.ranges (kept_ranges t [] h.ranges) h.room (h.room + length h.ranges - length (kept_ranges t [] h.ranges)) (sym (all_stand t h.ranges))
    (let long = ap length (all_stand t h.ranges) in omega (arith, long))
  where
    held : List RangeDeletion → ℕ → HeldRanges
    held xs n = record { ranges = xs; room = n }

    same : (xs ys : List RangeDeletion) (n m : ℕ) → xs ≡ ys → n ≡ m → held xs n ≡ held ys m
    same xs ys n m e f = ap (λ (zs : List RangeDeletion). held zs n) e ∙ ap (held ys) f

-- a collection of them, with the room that it leaves
pub ranges_held_collected : (t : ℕ) (ds : List Version) (old new : HeldRanges) → new.ranges ≡ kept_ranges t ds old.ranges → new.room + length new.ranges ≡ old.room + length old.ranges
    → new ≡ collected_ranges t ds old
ranges_held_collected t ds old new ranges room =
    same new.ranges (kept_ranges t ds old.ranges) new.room (old.room + length old.ranges - length (kept_ranges t ds old.ranges)) ranges
    (let long = ap length ranges in omega (arith, long, room))
  where
    held : List RangeDeletion → ℕ → HeldRanges
    held xs n = record { ranges = xs; room = n }

    same : (xs ys : List RangeDeletion) (n m : ℕ) → xs ≡ ys → n ≡ m → held xs n ≡ held ys m
    same xs ys n m e f = ap (λ (zs : List RangeDeletion). held zs n) e ∙ ap (held ys) f

-- ---- what is kept
from_old : (t : ℕ) (xs : List Version) (v : Version) → Contains (kept_from t xs) v → Contains xs v
from_old t xs v has = let newest = (kept_exactly t xs (kept_from t xs) refl v).0 has in seen_is_contained xs newest.0 v newest.2

-- a version that is seen by a time is no newer than what is seen then
seen_no_older : (ds : List Version) (t : ℕ) (d : Version) → IsFalling ds → Contains ds d → d.evt ≤ t → (u : Version) × (at_of ds t ≡ Some u) × (is_older u.stamp d.stamp ≡ false)
seen_no_older ds t d falling has seen = go (at_of ds t) refl (newest_at_is_greatest ds t falling)
  where
    go : (o : Option Version) → at_of ds t ≡ o → MatchOption o ((w : Version) → Contains ds w → t < w.evt) (IsNewestAt ds t) → (u : Version) × (at_of ds t ≡ Some u) × (is_older u.stamp d.stamp ≡ false)
    go None is none = let later = none d has in absurd (omega (arith, seen, later))
    go (Some u) is newest = (u, is, newest.2 d has seen)

-- a deletion of a range that is newer than the row's newest deletion at a time from the horizon on isn't dropped
in_force_stays : (ds : List Version) (low t : ℕ) (x : RangeDeletion) → IsFalling ds → low ≤ t → x.evt ≤ t → is_under (at_of ds t) x ≡ false → hidden low ds x ≡ false
in_force_stays ds low t x falling above seen stands = go (at_of ds (max low x.evt)) refl
  where
    go : (o : Option Version) → at_of ds (max low x.evt) ≡ o → is_under o x ≡ false
    go None is = refl
    go (Some d) is =
        let by = seen_by ds (max low x.evt) d is in
        let early : d.evt ≤ max low x.evt = grind (arith, nat_tests, by) in
        let u = seen_no_older ds t d falling (seen_is_contained ds (max low x.evt) d is) (omega (arith, early, above, seen)) in
        denied (is_older x.stamp d.stamp) (λ older. no_truth (is_under (at_of ds t) x) (ap (λ (o : Option Version). is_under o x) u.1 ∙ older_through x.stamp d.stamp u.0.stamp older u.2) stands)

pub keeps_collected : (old new : StoreValue) (all : List Applied) → old.low ≤ new.low → HaveKept new.low old.rows new.rows → HaveKeptRanges new.low old.rows new.rows → Keeps old all → Keeps new all
keeps_collected old new all raised kept kept_also k = record {
  apart = k.apart;
  falling = λ r p. subst (λ (xs : List Version). IsFalling xs) (sym (kept r p)) (falling_kept new.low (chain_at old.rows r p).versions (k.falling r p));
  seen = λ r p t low.
      (let xs = (chain_at old.rows r p).versions in
      ap (λ (ys : List Version). option_map (stamped_of p) (at_of ys t)) (kept r p)
      ∙ ap (option_map (stamped_of p)) (at_kept new.low xs t low)
      ∙ k.seen r p t (omega (arith, raised, low)));
  from = λ r p v has. k.from r p v (from_old new.low (chain_at old.rows r p).versions v (subst (λ (xs : List Version). Contains xs v) (kept r p) has));
  ranges = λ r t x low from stands.
      (let ds = (chain_at old.rows r None).versions in
      let by = range_by_then all t r x from in
      let below : old.low ≤ t = omega (arith, raised, low) in
      let held = k.ranges r t x below from stands in
      let seen : x.evt ≤ t = grind (arith, nat_tests, by.1) in
      let stays = in_force_stays ds new.low t x (k.falling r None) low seen (under_by (at_of ds t) x ∙ ap (λ (o : Option Stamped). is_older_than o x.stamp) (k.seen r None t below) ∙ stands) in
      subst (λ (xs : List RangeDeletion). Contains xs x) (sym (kept_also r))
      (passes (λ (y : RangeDeletion). not (hidden new.low ds y)) (ranges_in old.rows r).ranges x held (not_false (hidden new.low ds x) stays)));
  ranges_from = λ r x has.
      k.ranges_from r x
      (kept_only (λ (y : RangeDeletion). not (hidden new.low (chain_at old.rows r None).versions y)) (ranges_in old.rows r).ranges x
      (subst (λ (xs : List RangeDeletion). Contains xs x) (kept_also r) has)).0;
}
