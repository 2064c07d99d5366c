-- What deletions of ranges do to a read, one after the other.
use Rattle.std.proofs.Common.{◌≡◌, ◌∙◌, sym, ap, subst, refl, ℕ, zero, suc, ◌<◌, length, max, nat_lt, inl, inr, Bool, true, false, not, ◌&&◌, ◌||◌, List, [], ◌∷◌, ◌++◌, map, filter, filter_map, take, Option, Some, None, option_map, arith, append-nil}
use Rattle.std.specs.Prelude.{Contains, ◌↔◌, if◌then◌else◌, option_to_list, slice_get}
use Rattle.std.specs.List.{list_any, AllByRecursion}
use Rattle.std.specs.List.Sorted.{IsStrictlySortedBy}
use Rattle.std.proofs.lemmas.Bool.Decides.{nat_tests}
use Rattle.std.specs.declared.cmp.Ordering.TheVariants.{Less}
use Rattle.std.proofs.lemmas.List.Elements.{filter-append, Contains-append_left, Contains-append_right, Contains-append_cases}
use Rattle.logical_time.specs.Stamps.{WriterValue, writer_cmp}
use Rattle.column_family.proofs.Options.{by_cases}
use Rattle.slice.specs.declared.column.Column.{Column}
use Rattle.slice.specs.declared.predicate.Predicate.{Predicate}
use Rattle.slice.specs.Meeting.{asks_between, meets}
use Rattle.slice.specs.Slice.{AreAsked, slice_of}
use Rattle.versions.specs.declared.version.Version.{Version}
use Rattle.versions.specs.declared.range.RangeDeletion.{RangeDeletion}
use Rattle.versions.specs.Ranges.{is_under}
use Rattle.store.specs.declared.part.Part.{Part}
use Rattle.store.specs.declared.sight.Moment.{Moment}
use Rattle.store.specs.declared.sight.Seen.{Seen}
use Rattle.store.specs.declared.striking.Standing.{Standing}
use Rattle.store.specs.Stored.{name_cmp}
use Rattle.store.specs.Part.{greatest_of}
use Rattle.store.specs.Sight.{Sight, NamedVersion, HaveSameWriters, named, AreSeen, AreAskedFor, live_of, evt_or_0, evt_of_sight, writer_of, writers_of, IsPartSeen}
use Rattle.store.specs.Struck.{ranged, is_range_seen, standing, strikes, is_struck, unstruck, writers_met, evt_asked, IsMadeUnder, IsPartUnder}
use Rattle.store.proofs.seen.Assembled.{live_asked}
use Rattle.store.proofs.lists.Lists.{kept_only, given_seen, map_of_map, mapped, mapped_only}

-- ---- of things as a function sees them
pub any_seen : {X Y : Type 0} (q : Y → Bool) (f : X → Y) (xs : List X) → list_any q (map f xs) ≡ list_any (λ x. q (f x)) xs
any_seen q f [] = refl
any_seen q f (x ∷ xs) = ap (λ b. q (f x) || b) (any_seen q f xs)

pub kept_seen : {X Y : Type 0} (q : Y → Bool) (f : X → Y) (xs : List X) → filter q (map f xs) ≡ map f (filter (λ x. q (f x)) xs)
kept_seen q f [] = refl
kept_seen q f (x ∷ xs) = by_cases (q (f x)) (λ yes. rw yes (ap (λ ys. f x ∷ ys) (kept_seen q f xs))) (λ no. rw no (kept_seen q f xs))

pub kept_alike : {X : Type 0} (p q : X → Bool) → ((x : X) → p x ≡ q x) → (xs : List X) → filter p xs ≡ filter q xs
kept_alike p q same [] = refl
kept_alike p q same (x ∷ xs) = by_cases (q x) (λ yes. rw (same x ∙ yes, yes) (ap (λ ys. x ∷ ys) (kept_alike p q same xs))) (λ no. rw (same x ∙ no, no) (kept_alike p q same xs))

-- the columns that no range strikes, as they were found
pub bare_named : (ranges : List Standing) (seen : List Seen)
    → map named (filter (λ s. not (list_any (λ x. strikes x.range.now (named s)) ranges)) seen) ≡ unstruck (map ranged ranges) (map named seen)
bare_named ranges seen =
    sym
    (kept_seen (λ s. not (is_struck (map ranged ranges) s)) named seen
    ∙ ap (map named) (kept_alike (λ s. not (is_struck (map ranged ranges) (named s))) (λ s. not (list_any (λ x. strikes x.range.now (named s)) ranges))
    (λ s. ap (λ b. not b) (any_seen (λ x. strikes x (named s)) ranged ranges)) seen))

-- ---- under no range
all_bare : (seen : List NamedVersion) → unstruck [] seen ≡ seen
all_bare [] = refl
all_bare (s ∷ seen) = ap (λ ss. s ∷ ss) (all_bare seen)

-- what is seen of a row is what is seen under no range
pub under_none : (f : Sight) (xs : List RangeDeletion) (p : Predicate) (part : Part) → xs ≡ [] → IsPartSeen f p part → IsPartUnder f xs p part
under_none f xs p part none shows = subst (λ (ys : List RangeDeletion). IsPartUnder f ys p part) (sym none) (record {
  seen = shows.seen;
  are_seen = shows.are_seen;
  made = record {
    columns = shows.made.columns ∙ ap (λ ss. slice_of p (filter_map (live_of (f None)) ss)) (sym (all_bare shows.seen));
    writers = λ w. (
      λ has. subst (λ ws. Contains ws w) (sym (same part.columns)) ((shows.made.writers w).0 has),
      λ has. (shows.made.writers w).1 (subst (λ ws. Contains ws w) (same part.columns) has),
    );
    in_order = shows.made.in_order;
    evt = shows.made.evt ∙ unchanged (evt_of_sight (f None) shows.seen);
  };
})
  where
    same : (columns : List Column) → writers_of p columns (f None) (unstruck [] shows.seen) ++ writers_met p columns [] ≡ writers_of p columns (f None) shows.seen
    same columns = append-nil (writers_of p columns (f None) (unstruck [] shows.seen)) ∙ ap (writers_of p columns (f None)) (all_bare shows.seen)

    unchanged : (n : ℕ) → n ≡ max n 0
    unchanged n = omega arith

-- ---- since when they are seen
-- the time so far, and that of the rest
pub evt_step : (p : Predicate) (x : RangeDeletion) (rest : List RangeDeletion) (now after all : ℕ)
    → after ≡ (if nat_lt now x.evt && asks_between p x.start x.finish then x.evt else now) → max now (evt_asked p (x ∷ rest)) ≡ all → max after (evt_asked p rest) ≡ all
evt_step p x rest now after all is so_far = go (asks_between p x.start x.finish) refl
  where
    later : (b : Bool) → nat_lt now x.evt ≡ b → after ≡ (if b && true then x.evt else now) → max now (max x.evt (evt_asked p rest)) ≡ all → max after (evt_asked p rest) ≡ all
    later true lt e h = grind (arith, nat_tests, lt, e, h)
    later false ge e h = grind (arith, nat_tests, ge, e, h)

    neither : (b : Bool) → (if b && false then x.evt else now) ≡ now
    neither true = refl
    neither false = refl

    go : (b : Bool) → asks_between p x.start x.finish ≡ b → max after (evt_asked p rest) ≡ all
    go true asked =
        later (nat_lt now x.evt) refl (rw asked at is) (rw asked at so_far)
    go false other =
        let same : after ≡ now = (rw other at is) ∙ neither (nat_lt now x.evt) in
        ap (λ n. max n (evt_asked p rest)) same ∙ (rw other at so_far)

-- ---- what they make
both_added : (xs ys zs : List WriterValue) → HaveSameWriters xs ys → HaveSameWriters (xs ++ zs) (ys ++ zs)
both_added xs ys zs same = λ w. (more xs ys (λ has. (same w).0 has), more ys xs (λ has. (same w).1 has))
  where
    more : {w : WriterValue} (us vs : List WriterValue) → (Contains us w → Contains vs w) → Contains (us ++ zs) w → Contains (vs ++ zs) w
    more {w} us vs moves has = elim (Contains-append_cases us zs w has) [
      | inl first ↦ Contains-append_left vs zs w (moves first)
      | inr last ↦ Contains-append_right vs zs w last
    ]

-- the writers that are sorted are those of the columns, the deletion and the ranges
pub writers_sorted : (all found columns met : List WriterValue) → ((w : WriterValue) → Contains all w ↔ Contains (found ++ met) w) → HaveSameWriters found columns → HaveSameWriters all (columns ++ met)
writers_sorted all found columns met sorted same = λ w. (
  λ has. (both_added found columns met same w).0 ((sorted w).0 has),
  λ has. (sorted w).1 ((both_added found columns met same w).1 has),
)

-- what is kept of things in name order is in name order
every_kept : {X : Type 0} (f : X → List ℕ) (q : X → Bool) (P : List ℕ → Type 0) (xs : List X) → AllByRecursion P (map f xs) → AllByRecursion P (map f (filter q xs))
every_kept f q P [] h = tt
every_kept f q P (x ∷ xs) h = by_cases (q x) (λ yes. rw yes (h.0, every_kept f q P xs h.1)) (λ no. rw no (every_kept f q P xs h.1))

pub sorted_kept : {X : Type 0} (f : X → List ℕ) (q : X → Bool) (xs : List X) → IsStrictlySortedBy name_cmp (map f xs) → IsStrictlySortedBy name_cmp (map f (filter q xs))
unfolding IsStrictlySortedBy
sorted_kept f q [] h = tt
sorted_kept f q (x ∷ xs) h =
    by_cases (q x)
    (λ yes. rw yes (every_kept f q (λ m. name_cmp (f x) m ≡ Less) xs h.0, sorted_kept f q xs h.1))
    (λ no. rw no (sorted_kept f q xs h.1))

-- and asked for, if all are
asked_kept : (p : Predicate) (q : Seen → Bool) (items : List Seen) → AreAskedFor p (map named items) → AreAskedFor p (map named (filter q items))
asked_kept p q items asks n v has =
    let m = mapped_only named (filter q items) (n, v) has in
    let k = kept_only q items m.0 m.1 in
    asks n v (subst (Contains (map named items)) m.2 (mapped named items m.0 k.0))

pub made_under : (p : Predicate) (part : Part) (items bare : List Seen) (ranges : List Standing) (d : Option Version) (live : List Column)
    → bare ≡ filter (λ s. not (list_any (λ x. strikes x.range.now (named s)) ranges)) items
    → AreAskedFor p (map named items) → live ≡ filter_map (λ s. live_of d (named s)) bare → (AreAsked p live → part.columns ≡ slice_of p live)
    → HaveSameWriters part.writers ((filter_map (λ s. writer_of p part.columns d (named s)) bare ++ option_to_list (option_map (λ v. v.what.writer) d)) ++ writers_met p part.columns (map ranged ranges))
    → IsStrictlySortedBy writer_cmp part.writers → part.evt ≡ max (max (evt_or_0 d) (greatest_of (map (λ s. s.version.now.evt) items))) (evt_asked p (map ranged ranges))
    → IsMadeUnder d (map ranged ranges) (map named items) p part
made_under p part items bare ranges d live is asks lives cut writers in_order evt =
    let xs = map ranged ranges in
    let same : map named bare ≡ unstruck xs (map named items) = ap (map named) is ∙ bare_named ranges items in
    let asked = subst (λ (ss : List Seen). AreAskedFor p (map named ss)) (sym is) (asked_kept p (λ s. not (list_any (λ x. strikes x.range.now (named s)) ranges)) items asks) in
    let columns : live ≡ filter_map (live_of d) (map named bare) = lives ∙ sym (given_seen (live_of d) named bare) in
    let found : filter_map (λ s. writer_of p part.columns d (named s)) bare ++ option_to_list (option_map (λ (v : Version). v.what.writer) d) ≡ writers_of p part.columns d (map named bare) =
    ap (λ ws. ws ++ option_to_list (option_map (λ (v : Version). v.what.writer) d)) (sym (given_seen (writer_of p part.columns d) named bare)) in
    record {
      columns = cut (subst (AreAsked p) (sym columns) (live_asked p d (map named bare) asked)) ∙ ap (slice_of p) columns ∙ ap (λ ss. slice_of p (filter_map (live_of d) ss)) same;
      writers = λ w. subst (λ ss. Contains part.writers w ↔ Contains (writers_of p part.columns d ss ++ writers_met p part.columns xs) w) same
          (subst (λ ws. Contains part.writers w ↔ Contains (ws ++ writers_met p part.columns xs) w) found (writers w));
      in_order = in_order;
      evt = evt ∙ ap (λ ts. max (max (evt_or_0 d) (greatest_of ts)) (evt_asked p xs)) (sym (map_of_map (λ (s : NamedVersion). s.1.evt) named items));
    }

pub under_seen : (f : Sight) (xs ys : List RangeDeletion) (p : Predicate) (part : Part) (seen : List NamedVersion) (d : Option Version) → AreSeen f p seen → d ≡ f None → xs ≡ ys
    → (IsStrictlySortedBy name_cmp (map (λ s. s.0) seen) → AreAskedFor p seen → IsMadeUnder d xs seen p part) → IsPartUnder f ys p part
under_seen f xs ys p part seen d are_seen is same made = record {
  seen = seen;
  are_seen = are_seen;
  made = subst (λ (zs : List RangeDeletion). IsMadeUnder (f None) zs seen p part) same
      (subst (λ (o : Option Version). IsMadeUnder o xs seen p part) is (made are_seen.in_order (λ n v has. (are_seen.sound n v has).0)));
}

-- ---- one after the other
-- those of the first, and one more
pub standing_more : (q : RangeDeletion → Bool) (xs : List RangeDeletion) (i : ℕ) (x : RangeDeletion) → slice_get xs i ≡ Some x → filter q (take (suc i) xs) ≡ filter q (take i xs) ++ filter q (x ∷ [])
standing_more q [] i x e = absurd (cc)
standing_more q (y ∷ xs) zero x e = (let same : y ≡ x = cc in ap (λ (z : RangeDeletion). filter q (z ∷ [])) same)
standing_more q (y ∷ xs) (suc i) x e = by_cases (q y) (λ yes. rw yes (ap (λ (ys : List RangeDeletion). y ∷ ys) (standing_more q xs i x e))) (λ no. rw no (standing_more q xs i x e))

-- below the end there is one
pub one_there : (xs : List RangeDeletion) (i : ℕ) → slice_get xs i ≡ None → i < length xs → ⊥
one_there [] i e lt = omega (arith, lt)
one_there (x ∷ xs) zero e lt = cc
one_there (x ∷ xs) (suc i) e lt = one_there xs i e (omega (arith, lt))

-- the writer of one that a read met
abbrev pub met_writer : Predicate → List Column → Standing → Option WriterValue
met_writer p columns x = if meets p columns x.range.now.start x.range.now.finish then Some x.range.now.writer else None

pub writers_given : (p : Predicate) (columns : List Column) (ranges : List Standing) → filter_map (met_writer p columns) ranges ≡ writers_met p columns (map ranged ranges)
writers_given p columns [] = refl
writers_given p columns (x ∷ ranges) =
    by_cases (meets p columns x.range.now.start x.range.now.finish)
    (λ yes. rw yes (ap (λ (ws : List WriterValue). x.range.now.writer ∷ ws) (writers_given p columns ranges)))
    (λ no. rw no (writers_given p columns ranges))

-- those of two rows, under the newer deletion of both
pub standing_both : (m : Moment) (d e : Option Version) (xs ys first : List RangeDeletion) → first ≡ standing m d xs → d ≡ e → first ++ standing m d ys ≡ standing m e (xs ++ ys)
standing_both m d e xs ys first is same =
    ap (λ (zs : List RangeDeletion). zs ++ standing m d ys) is
    ∙ sym (filter-append (λ (x : RangeDeletion). is_range_seen m x && not (is_under d x)) xs ys)
    ∙ ap (λ (o : Option Version). standing m o (xs ++ ys)) same
