-- Which of two mutations is newer, and what is the newest of a part of a history.
use Rattle.std.proofs.Common.{◌≡◌, ◌∙◌, sym, ap, refl, ℕ, ◌≤◌, Bool, true, false, nat_le, cond, List, [], ◌∷◌, Option, Some, None, option_map, arith}
use Rattle.std.specs.Prelude.{filter}
use Rattle.std.specs.Ordering.{is_eq}
use Rattle.std.proofs.lemmas.Bool.Decides.{nat_tests}
use Rattle.logical_time.specs.Stamps.{StampValue, stamp_cmp, is_older}
use Rattle.column_family.specs.declared.batch.Change.{Change}
use Rattle.column_family.specs.declared.batch.Committed.{Committed}
use Rattle.column_family.specs.declared.batch.Mutation.{Mutation}
use Rattle.column_family.specs.History.{History, up_to, Stamped, newer_of, newest_of, last_of, stamped}
use Rattle.column_family.proofs.Options.{by_cases}
use Rattle.column_family.proofs.Joins.{newer_of_none}
use Rattle.store.specs.declared.part.Applied.{Applied}
use Rattle.store.specs.Part.{committed_of, history_of, applied_by, commit_of}

-- ---- stamps
pub not_older_itself : (s : StampValue) → is_older s s ≡ false
not_older_itself s = grind (arith, nat_tests)

pub not_older_trans : (s t u : StampValue) → is_older s t ≡ false → is_older t u ≡ false → is_older s u ≡ false
not_older_trans s t u h k = grind (arith, nat_tests)

not_older_back : (s t : StampValue) → is_older s t ≡ true → is_older t s ≡ false
not_older_back s t h = grind (arith, nat_tests)

newer_if_apart : (s t : StampValue) → is_eq (stamp_cmp s t) ≡ false → is_older s t ≡ false → is_older t s ≡ true
newer_if_apart s t h k = grind (arith, nat_tests)

pub same_itself : (s : StampValue) → is_eq (stamp_cmp s s) ≡ true
same_itself s = grind (arith, nat_tests)

-- ---- mutations with two stamps
-- the mutation has another stamp
abbrev pub IsApartFrom : StampValue → Option Stamped → Type 0
IsApartFrom s None = Unit {0}
IsApartFrom s (Some x) = is_eq (stamp_cmp s x.stamp) ≡ false

pub apart_newer : (s : StampValue) (a b : Option Stamped) → IsApartFrom s a → IsApartFrom s b → IsApartFrom s (newer_of a b)
apart_newer s None b h k = k
apart_newer s (Some x) None h k = h
apart_newer s (Some x) (Some y) h k = by_cases (is_older x.stamp y.stamp) (λ lt. rw lt k) (λ ge. rw ge h)

swapped : (x y : Stamped) → is_eq (stamp_cmp x.stamp y.stamp) ≡ false → newer_of (Some x) (Some y) ≡ newer_of (Some y) (Some x)
swapped x y h =
    by_cases (is_older x.stamp y.stamp)
    (λ lt. rw (lt, not_older_back x.stamp y.stamp lt) refl)
    (λ ge. rw (ge, newer_if_apart x.stamp y.stamp h ge) refl)

pub newer_of_swap : (c : Committed) (o : Option Mutation) (b : Option Stamped) → IsApartFrom c.stamp b → newer_of (option_map (stamped c) o) b ≡ newer_of b (option_map (stamped c) o)
newer_of_swap c None b h = sym (newer_of_none b)
newer_of_swap c (Some m) None h = refl
newer_of_swap c (Some m) (Some y) h = swapped (stamped c m) y h

-- ---- more changes have no older newest one
abbrev pub IsNoOlder : Option Stamped → Option Stamped → Type 0
IsNoOlder a None = Unit {0}
IsNoOlder None (Some y) = ⊥
IsNoOlder (Some x) (Some y) = is_older x.stamp y.stamp ≡ false

no_older_itself : (a : Option Stamped) → IsNoOlder a a
no_older_itself None = tt
no_older_itself (Some x) = not_older_itself x.stamp

pub no_older_trans : (a b c : Option Stamped) → IsNoOlder a b → IsNoOlder b c → IsNoOlder a c
no_older_trans a b None h k = tt
no_older_trans a None (Some z) h k = absurd k
no_older_trans None (Some y) (Some z) h k = absurd h
no_older_trans (Some x) (Some y) (Some z) h k = not_older_trans x.stamp y.stamp z.stamp h k

pub first_no_older : (a b : Option Stamped) → IsNoOlder (newer_of a b) a
first_no_older None b = tt
first_no_older (Some x) None = not_older_itself x.stamp
first_no_older (Some x) (Some y) = by_cases (is_older x.stamp y.stamp) (λ lt. rw lt (not_older_back x.stamp y.stamp lt)) (λ ge. rw ge (not_older_itself x.stamp))

pub second_no_older : (a b : Option Stamped) → IsNoOlder (newer_of a b) b
second_no_older None b = no_older_itself b
second_no_older (Some x) None = tt
second_no_older (Some x) (Some y) = by_cases (is_older x.stamp y.stamp) (λ lt. rw lt (not_older_itself y.stamp)) (λ ge. rw ge ge)

newer_no_older : (a b c : Option Stamped) → IsNoOlder a b → IsNoOlder a c → IsNoOlder a (newer_of b c)
newer_no_older a None c h k = k
newer_no_older a (Some y) None h k = h
newer_no_older a (Some y) (Some z) h k = by_cases (is_older y.stamp z.stamp) (λ lt. rw lt k) (λ ge. rw ge h)

-- of the changes of one history the newest is no older where more of its entries count
pub more_no_older : (q : Change → Bool) (u v : Committed → Bool) → ((c : Committed) → u c ≡ true → v c ≡ true) → (h : History)
    → IsNoOlder (newest_of q (filter v h)) (newest_of q (filter u h))
more_no_older q u v more [] = tt
more_no_older q u v more (c ∷ h) = go (u c) (v c) (more c) (more_no_older q u v more h)
  where
    go : (s t : Bool) → (s ≡ true → t ≡ true) → IsNoOlder (newest_of q (filter v h)) (newest_of q (filter u h))
        → IsNoOlder (newest_of q (cond t (c ∷ filter v h) (filter v h))) (newest_of q (cond s (c ∷ filter u h) (filter u h)))
    go true true m ih =
        let own = option_map (stamped c) (last_of q c.batch) in
        newer_no_older (newer_of own (newest_of q (filter v h))) own (newest_of q (filter u h))
        (first_no_older own (newest_of q (filter v h)))
        (no_older_trans (newer_of own (newest_of q (filter v h))) (newest_of q (filter v h)) (newest_of q (filter u h)) (second_no_older own (newest_of q (filter v h))) ih)
    go true false m ih = let never : false ≡ true = m refl in absurd (cc)
    go false true m ih =
        let own = option_map (stamped c) (last_of q c.batch) in
        no_older_trans (newer_of own (newest_of q (filter v h))) (newest_of q (filter v h)) (newest_of q (filter u h)) (second_no_older own (newest_of q (filter v h))) ih
    go false false m ih = ih

all_kept : (h : History) → filter (λ c. true) h ≡ h
all_kept [] = refl
all_kept (c ∷ h) = ap (λ (k : History). c ∷ k) (all_kept h)

-- ---- the newest of all where it is committed by the time
newest_if : (q : Change → Bool) (b : Bool) (c : Committed) (h : History)
    → newest_of q (cond b (c ∷ h) h) ≡ cond b (newer_of (option_map (stamped c) (last_of q c.batch)) (newest_of q h)) (newest_of q h)
newest_if q true c h = refl
newest_if q false c h = refl

-- the newest of a list with one more, where that of the rest is found by the time as soon as it is committed by then
with_first : (t : ℕ) (c : Committed) (b : Bool) → nat_le c.commit t ≡ b → (o : Option Mutation) (n by : Option Stamped)
    → (commit_of n ≤ t → by ≡ n) → IsNoOlder n by → commit_of (newer_of (option_map (stamped c) o) n) ≤ t
    → cond b (newer_of (option_map (stamped c) o) by) by ≡ newer_of (option_map (stamped c) o) n
with_first t c true is None n by same older le = same le
with_first t c true is (Some m) None None same older le = refl
with_first t c true is (Some m) None (Some z) same older le = absurd older
with_first t c true is (Some m) (Some y) by same older le =
    by_cases (is_older c.stamp y.stamp)
    (λ lt. let k = rw lt at le in ap (newer_of (Some (stamped c m))) (same k))
    (λ ge. rw ge (go ge by older))
  where
    go : is_older c.stamp y.stamp ≡ false → (o : Option Stamped) → IsNoOlder (Some y) o → newer_of (Some (stamped c m)) o ≡ Some (stamped c m)
    go ge None k = refl
    go ge (Some z) k = rw (not_older_trans c.stamp y.stamp z.stamp ge k) refl
with_first t c false is None n by same older le = same le
with_first t c false is (Some m) None by same older le = absurd (grind (arith, nat_tests, is, le))
with_first t c false is (Some m) (Some y) by same older le =
    by_cases (is_older c.stamp y.stamp)
    (λ lt. let k = rw lt at le in rw lt (same k))
    (λ ge. let k = rw ge at le in absurd (grind (arith, nat_tests, is, k)))

pub newest_by : (q : Change → Bool) (t : ℕ) (h : History) → commit_of (newest_of q h) ≤ t → newest_of q (up_to t h) ≡ newest_of q h
newest_by q t [] le = refl
newest_by q t (c ∷ h) le =
    newest_if q (nat_le c.commit t) c (up_to t h)
    ∙ with_first t c (nat_le c.commit t) refl (last_of q c.batch) (newest_of q h) (newest_of q (up_to t h)) (newest_by q t h)
    (rw (all_kept h) at (more_no_older q (λ (d : Committed). nat_le d.commit t) (λ d. true) (λ d e. refl) h))
    le

pub history_by : (t : ℕ) (all : List Applied) → history_of (applied_by t all) ≡ up_to t (history_of all)
history_by t [] = refl
history_by t (a ∷ all) = go (nat_le a.commit t) (history_by t all)
  where
    go : (b : Bool) → history_of (applied_by t all) ≡ up_to t (history_of all)
        → history_of (cond b (a ∷ applied_by t all) (applied_by t all)) ≡ cond b (committed_of a ∷ up_to t (history_of all)) (up_to t (history_of all))
    go true e = ap (λ (h : History). committed_of a ∷ h) e
    go false e = e
