-- The newest deletion of a range over a column strikes its version, where one does.
use Rattle.std.proofs.Common.{◌≡◌, ◌∙◌, sym, ap, subst, refl, ℕ, ◌≤◌, max, Bool, true, false, not, ◌&&◌, ◌||◌, List, [], ◌∷◌, ◌++◌, map, filter, Option, Some, None, inl, inr, arith}
use Rattle.std.proofs.lemmas.Bool.Decides.{nat_tests}
use Rattle.std.specs.Prelude.{Contains, MatchOption, nat_le}
use Rattle.std.specs.List.{list_any}
use Rattle.std.proofs.lemmas.List.Elements.{filter-append, Contains-append_left, Contains-append_right}
use Rattle.logical_time.specs.Stamps.{StampValue, is_older}
use Rattle.column_family.specs.Names.{is_between}
use Rattle.column_family.proofs.Options.{by_cases, both_true, both_hold}
use Rattle.versions.specs.declared.version.Version.{Version}
use Rattle.versions.specs.declared.range.RangeDeletion.{RangeDeletion}
use Rattle.versions.specs.Ranges.{RangesFall, IsNewestOver, is_over, over_of, is_under}
use Rattle.versions.proofs.RangeOrder.{none_newer_further}
use Rattle.versions.proofs.RangesOver.{over_is_greatest}
use Rattle.store.specs.declared.sight.Moment.{Moment}
use Rattle.store.specs.declared.sight.Moment.TheVariants.{Now, At}
use Rattle.store.specs.declared.sight.Seen.{Seen}
use Rattle.store.specs.declared.striking.Standing.{Standing}
use Rattle.store.specs.Part.{greatest_of}
use Rattle.store.specs.Sight.{NamedVersion, named}
use Rattle.store.specs.Struck.{ranged, is_range_seen, standing, strikes}
use Rattle.store.specs.Sweeping.{does_strike, newest_strikes, IsTimeOf}
use Rattle.store.proofs.lists.Lists.{first_or_rest, none_in_empty, kept, kept_only, any_has, any_found, same_if, not_true, not_false, no_truth}
use Rattle.store.proofs.seen.Strikes.{any_seen, kept_alike}

-- ---- the time of a walk
below_greatest : (xs : List RangeDeletion) (x : RangeDeletion) → Contains xs x → x.evt ≤ greatest_of (map (λ y. y.evt) xs)
below_greatest [] x has = absurd (none_in_empty x has)
below_greatest (y ∷ ys) x has = elim (first_or_rest y x ys has) [
  | inl here ↦ (let same : y.evt ≡ x.evt = ap (λ (z : RangeDeletion). z.evt) here in grind (arith, same))
  | inr there ↦ (let less : x.evt ≤ greatest_of (map (λ (z : RangeDeletion). z.evt) ys) = below_greatest ys x there in grind (arith, less))
]

evts_of : (ranges : List Standing) → greatest_of (map (λ x. x.range.now.evt) ranges) ≡ greatest_of (map (λ y. y.evt) (map ranged ranges))
evts_of [] = refl
evts_of (x ∷ ranges) = ap (max x.range.now.evt) (evts_of ranges)

is_at_most : (a b : ℕ) → a ≤ b → nat_le a b ≡ true
is_at_most a b h = grind (arith, nat_tests, h)

-- of those that are all seen
pub time_of_all : (ranges : List Standing) (t : ℕ) → t ≡ greatest_of (map (λ x. x.range.now.evt) ranges) → IsTimeOf Now (map ranged ranges) t
time_of_all ranges t is = record {
  sound = λ x by. refl;
  whole = λ x has. is_at_most x.evt t (subst (λ n. x.evt ≤ n) (sym (is ∙ evts_of ranges)) (below_greatest (map ranged ranges) x has));
}

pub time_of_moment : (m : Moment) (ranges : List Standing) (t : ℕ) → m ≡ At t → ((x : RangeDeletion) → Contains (map ranged ranges) x → is_range_seen m x ≡ true) → IsTimeOf m (map ranged ranges) t
time_of_moment m ranges t is seen = record {
  sound = λ x by. subst (λ (n : Moment). is_range_seen n x ≡ true) (sym is) by;
  whole = λ x has. subst (λ (n : Moment). is_range_seen n x ≡ true) is (seen x has);
}

-- ---- one column
older_further : (r s t : StampValue) → is_older r s ≡ true → is_older t s ≡ false → is_older r t ≡ true
older_further r s t h k = grind (arith, nat_tests)

-- one that is no older is under no deletion that the other is not under
not_under : (d : Option Version) (x y : RangeDeletion) → is_older x.stamp y.stamp ≡ false → is_under d y ≡ false → is_under d x ≡ false
not_under None x y h k = refl
not_under (Some v) x y h k = none_newer_further x.stamp y.stamp v.stamp h k

pub strikes_by_newest : (m : Moment) (d : Option Version) (xs : List RangeDeletion) (t : ℕ) (s : NamedVersion) → RangesFall xs → IsTimeOf m (standing m d xs) t
    → newest_strikes xs t d s ≡ list_any (λ x. strikes x s) (standing m d xs)
strikes_by_newest m d xs t s fall time = go (over_of xs s.0 t) refl (over_is_greatest xs s.0 t fall)
  where
    stands : RangeDeletion → Bool
    stands x = is_range_seen m x && not (is_under d x)

    -- what one that strikes has to do with the newest
    over : (y : RangeDeletion) → Contains (standing m d xs) y → strikes y s ≡ true → is_over s.0 t y ≡ true
    over y has hits = both_hold (nat_le y.evt t) (is_between y.start y.finish s.0) (time.whole y has) (both_true (is_between y.start y.finish s.0) (is_older s.1.stamp y.stamp) hits).0

    go : (o : Option RangeDeletion) → over_of xs s.0 t ≡ o → MatchOption o ((x : RangeDeletion) → Contains xs x → is_over s.0 t x ≡ false) (IsNewestOver xs s.0 t)
        → does_strike d o s ≡ list_any (λ x. strikes x s) (standing m d xs)
    go None is none = same_if false (list_any (λ x. strikes x s) (standing m d xs)) (λ no. absurd (cc)) (λ some.
        let found = any_found (λ x. strikes x s) (standing m d xs) some in
        let y = found.0 in
        no_truth (is_over s.0 t y) (over y found.1 found.2) (none y (kept_only stands xs y found.1).0))
    go (Some x) is newest = same_if (does_strike d (Some x) s) (list_any (λ x. strikes x s) (standing m d xs))
        (λ hits.
        let h = both_true (is_older s.1.stamp x.stamp) (not (is_under d x)) hits in
        let o = both_true (nat_le x.evt t) (is_between x.start x.finish s.0) newest.1 in
        any_has (λ x. strikes x s) (standing m d xs) x
        (kept stands xs x newest.0 (both_hold (is_range_seen m x) (not (is_under d x)) (time.sound x o.0) h.1))
        (both_hold (is_between x.start x.finish s.0) (is_older s.1.stamp x.stamp) o.1 h.0))
        (λ some.
        let found = any_found (λ x. strikes x s) (standing m d xs) some in
        let y = found.0 in
        let k = kept_only stands xs y found.1 in
        let less : is_older x.stamp y.stamp ≡ false = newest.2 y k.0 (over y found.1 found.2) in
        let hits = both_true (is_between y.start y.finish s.0) (is_older s.1.stamp y.stamp) found.2 in
        let free = both_true (is_range_seen m y) (not (is_under d y)) k.1 in
        both_hold (is_older s.1.stamp x.stamp) (not (is_under d x))
        (older_further s.1.stamp y.stamp x.stamp hits.1 less)
        (not_false (is_under d x) (not_under d x y less (not_true (is_under d y) free.1))))

-- ---- all columns
pub unstruck_by_newest : (m : Moment) (d : Option Version) (xs : List RangeDeletion) (t : ℕ) (ranges : List Standing) (seen : List Seen) → RangesFall xs
    → map ranged ranges ≡ standing m d xs → IsTimeOf m (map ranged ranges) t
    → filter (λ s. not (newest_strikes xs t d (named s))) seen ≡ filter (λ s. not (list_any (λ x. strikes x.range.now (named s)) ranges)) seen
unstruck_by_newest m d xs t ranges seen fall is time =
    kept_alike (λ s. not (newest_strikes xs t d (named s))) (λ s. not (list_any (λ x. strikes x.range.now (named s)) ranges))
    (λ s. ap (λ b. not b)
    (strikes_by_newest m d xs t (named s) fall (subst (λ (ys : List RangeDeletion). IsTimeOf m ys t) is time)
    ∙ ap (list_any (λ x. strikes x (named s))) (sym is)
    ∙ any_seen (λ x. strikes x (named s)) ranged ranges)) seen

any_append : (q : RangeDeletion → Bool) (xs ys : List RangeDeletion) → list_any q (xs ++ ys) ≡ (list_any q xs || list_any q ys)
any_append q [] ys = refl
any_append q (x ∷ xs) ys = ap (λ b. q x || b) (any_append q xs ys) ∙ further (q x) (list_any q xs) (list_any q ys)
  where
    further : (a b c : Bool) → (a || (b || c)) ≡ ((a || b) || c)
    further true b c = refl
    further false b c = refl

kept_twice : (p q : Seen → Bool) (seen : List Seen) → filter (λ s. not (q s)) (filter (λ s. not (p s)) seen) ≡ filter (λ s. not (p s || q s)) seen
kept_twice p q [] = refl
kept_twice p q (s ∷ seen) =
    by_cases (p s)
    (λ yes. rw yes (kept_twice p q seen))
    (λ no. by_cases (q s)
    (λ yes. rw (no, yes) (kept_twice p q seen))
    (λ neither. rw (no, neither) (ap (λ ss. s ∷ ss) (kept_twice p q seen))))

-- without a range all are left
pub none_left : (xs : List RangeDeletion) (t : ℕ) (d : Option Version) (seen : List Seen) → xs ≡ [] → seen ≡ filter (λ s. not (newest_strikes xs t d (named s))) seen
none_left xs t d seen none = subst (λ (ys : List RangeDeletion). seen ≡ filter (λ s. not (newest_strikes ys t d (named s))) seen) (sym none) (whole seen)
  where
    whole : (ss : List Seen) → ss ≡ filter (λ s. not (newest_strikes [] t d (named s))) ss
    whole [] = refl
    whole (s ∷ ss) = ap (λ (rest : List Seen). s ∷ rest) (whole ss)

-- some of them by that time
fewer : (m : Moment) (ys zs : List RangeDeletion) (t : ℕ) → IsTimeOf m zs t → ((x : RangeDeletion) → Contains ys x → Contains zs x) → IsTimeOf m ys t
fewer m ys zs t time has = record {
  sound = time.sound;
  whole = λ x h. time.whole x (has x h);
}

pub unstruck_by_both : (m : Moment) (d : Option Version) (xs ys : List RangeDeletion) (t : ℕ) (ranges : List Standing) (seen : List Seen) → RangesFall xs → RangesFall ys
    → map ranged ranges ≡ standing m d (xs ++ ys) → IsTimeOf m (map ranged ranges) t
    → filter (λ s. not (newest_strikes ys t d (named s))) (filter (λ s. not (newest_strikes xs t d (named s))) seen)
    ≡ filter (λ s. not (list_any (λ x. strikes x.range.now (named s)) ranges)) seen
unstruck_by_both m d xs ys t ranges seen fall falls is time =
    kept_twice (λ s. newest_strikes xs t d (named s)) (λ s. newest_strikes ys t d (named s)) seen
    ∙ kept_alike (λ s. not (newest_strikes xs t d (named s) || newest_strikes ys t d (named s))) (λ s. not (list_any (λ x. strikes x.range.now (named s)) ranges)) (λ s. ap (λ b. not b) (one s)) seen
  where
    split : map ranged ranges ≡ standing m d xs ++ standing m d ys
    split = is ∙ filter-append (λ (x : RangeDeletion). is_range_seen m x && not (is_under d x)) xs ys

    both : IsTimeOf m (standing m d xs ++ standing m d ys) t
    both = subst (λ (zs : List RangeDeletion). IsTimeOf m zs t) split time

    one : (s : Seen) → (newest_strikes xs t d (named s) || newest_strikes ys t d (named s)) ≡ list_any (λ x. strikes x.range.now (named s)) ranges
    one s =
        ap (λ b. b || newest_strikes ys t d (named s)) (strikes_by_newest m d xs t (named s) fall (fewer m (standing m d xs) (standing m d xs ++ standing m d ys) t both (λ x h. Contains-append_left (standing m d xs) (standing m d ys) x h)))
        ∙ ap (λ b. list_any (λ x. strikes x (named s)) (standing m d xs) || b) (strikes_by_newest m d ys t (named s) falls (fewer m (standing m d ys) (standing m d xs ++ standing m d ys) t both (λ x h. Contains-append_right (standing m d xs) (standing m d ys) x h)))
        ∙ sym (any_append (λ x. strikes x (named s)) (standing m d xs) (standing m d ys))
        ∙ ap (list_any (λ x. strikes x (named s))) (sym split)
        ∙ any_seen (λ x. strikes x (named s)) ranged ranges

-- what stands is seen
pub standing_seen : (m : Moment) (d : Option Version) (xs ys : List RangeDeletion) → ys ≡ standing m d xs → (x : RangeDeletion) → Contains ys x → is_range_seen m x ≡ true
standing_seen m d xs ys is x has =
    (both_true (is_range_seen m x) (not (is_under d x)) (kept_only (λ (y : RangeDeletion). is_range_seen m y && not (is_under d y)) xs x (subst (λ (zs : List RangeDeletion). Contains zs x) is has)).1).0
