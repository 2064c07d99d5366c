-- Range deletions below deletions of their row, and which of them are kept.
use Rattle.std.proofs.Common.{◌≡◌, refl, ◌∙◌, ap, sym, subst, ℕ, max, ◌≤◌, ◌<◌, Bool, true, false, nat_le, List, [], ◌∷◌, ◌++◌, Option, Some, None, ⊎_elim, arith}
use Rattle.std.proofs.lemmas.Bool.Decides.{nat_tests}
use Rattle.std.proofs.lemmas.List.{reverse-append, append-nil}
use Rattle.std.proofs.lemmas.List.Elements.{filter-append}
use Rattle.std.specs.Prelude.{reverse, filter, not, ◌&&◌, Contains, MatchOption, ◌↔◌}
use Rattle.std.specs.List.{list_any}
use Rattle.logical_time.specs.Stamps.{StampValue, is_older}
use Rattle.versions.specs.declared.version.Version.{Version}
use Rattle.versions.specs.declared.range.RangeDeletion.{RangeDeletion}
use Rattle.versions.specs.Chain.{IsFalling, at_of}
use Rattle.versions.specs.Newest.{IsNewestAt}
use Rattle.versions.specs.Ranges.{NoneNewer, RangesFall, is_under, is_in_force, IsInForceFrom, in_force_at, hidden, kept_ranges, has_newer_by}
use Rattle.versions.proofs.Tests.{by_cases}
use Rattle.versions.proofs.Members as members
use Rattle.versions.proofs.Newest.{newest_at_is_greatest}
use Rattle.versions.proofs.RangeOrder.{none_newer_further, none_in_empty, first_or_rest, contains_first, contains_rest}

-- ---- whether a newer deletion of the row is seen
any_of : (p : Version → Bool) (xs : List Version) (v : Version) → Contains xs v → p v ≡ true → list_any p xs ≡ true
any_of p [] v c h = absurd (members.none_in_empty v c)
any_of p (x ∷ xs) v c h =
    by_cases (p x)
    (λ yes. rw yes refl)
    (λ no. rw no (⊎_elim (λ e. absurd (let k : p x ≡ true = ap p e ∙ h in cc)) (λ r. any_of p xs v r h) (members.first_or_rest x v xs c)))

none_of : (p : Version → Bool) (xs : List Version) → ((v : Version) → Contains xs v → p v ≡ false) → list_any p xs ≡ false
none_of p [] h = refl
none_of p (x ∷ xs) h = rw (h x (members.contains_first x xs)) (none_of p xs (λ v c. h v (members.contains_rest x v xs c)))

-- whether a newer one is seen by the time
abbrev newer_seen : List Version → ℕ → RangeDeletion → Bool
newer_seen ds t x = list_any (λ d. is_older x.stamp d.stamp && nat_le d.evt t) ds

-- a newer one is seen exactly where the newest that is seen is newer
pub newer_by_newest : (ds : List Version) (t : ℕ) (x : RangeDeletion) → IsFalling ds → newer_seen ds t x ≡ is_under (at_of ds t) x
newer_by_newest ds t x h = go (at_of ds t) (newest_at_is_greatest ds t h)
  where
    none : (v : Version) → is_older x.stamp v.stamp ≡ false → IsNewestAt ds t v → (w : Version) → Contains ds w → (is_older x.stamp w.stamp && nat_le w.evt t) ≡ false
    none v not m w c =
        by_cases (nat_le w.evt t)
        (λ le. rw (none_newer_further x.stamp v.stamp w.stamp not (m.2 w c (grind (arith, nat_tests, le)))) refl)
        (λ gt. rw gt (neither (is_older x.stamp w.stamp)))
      where
        neither : (b : Bool) → (b && false) ≡ false
        neither true = refl
        neither false = refl

    late : (w : Version) → t < w.evt → (is_older x.stamp w.stamp && nat_le w.evt t) ≡ false
    late w before = grind (arith, nat_tests, before)

    go : (o : Option Version) → MatchOption o ((w : Version) → Contains ds w → t < w.evt) (IsNewestAt ds t) → newer_seen ds t x ≡ is_under o x
    go None m = none_of (λ d. is_older x.stamp d.stamp && nat_le d.evt t) ds (λ w c. late w (m w c))
    go (Some v) m =
        by_cases (is_older x.stamp v.stamp)
        (λ older. any_of (λ d. is_older x.stamp d.stamp && nat_le d.evt t) ds v m.0 (let le : nat_le v.evt t ≡ true = grind (arith, nat_tests, m.1) in rw (older, le) refl) ∙ sym older)
        (λ not. none_of (λ d. is_older x.stamp d.stamp && nat_le d.evt t) ds (none v not m) ∙ sym not)

-- the rule, said of all deletions of the row that are held
pub hidden_by_rule : (low : ℕ) (ds : List Version) (x : RangeDeletion) → IsFalling ds → has_newer_by low ds x ≡ hidden low ds x
hidden_by_rule low ds x h = newer_by_newest ds (max low x.evt) x h

newer_seen_later : (ds : List Version) (s t : ℕ) (x : RangeDeletion) → s ≤ t → newer_seen ds s x ≡ true → newer_seen ds t x ≡ true
newer_seen_later [] s t x le h = absurd (cc)
newer_seen_later (d ∷ ds) s t x le h =
    by_cases (is_older x.stamp d.stamp && nat_le d.evt s)
    (λ yes. let k : (is_older x.stamp d.stamp && nat_le d.evt t) ≡ true = grind (arith, nat_tests, yes, le) in rw k refl)
    (λ no. by_cases (is_older x.stamp d.stamp && nat_le d.evt t)
    (λ now. rw now refl)
    (λ not. rw not (newer_seen_later ds s t x le (rw no at h))))

-- what is below the newest deletion of the row at a time is so at each later time
pub under_later : (ds : List Version) (s t : ℕ) (x : RangeDeletion) → IsFalling ds → s ≤ t → is_under (at_of ds s) x ≡ true → is_under (at_of ds t) x ≡ true
under_later ds s t x h le k = sym (newer_by_newest ds t x h) ∙ newer_seen_later ds s t x le (newer_by_newest ds s x h ∙ k)

-- what is dropped is in force at no time from then on
pub never_in_force : (low t : ℕ) (ds : List Version) (x : RangeDeletion) → IsFalling ds → low ≤ t → hidden low ds x ≡ true → is_in_force ds t x ≡ false
never_in_force low t ds x h from dropped =
    by_cases (nat_le x.evt t)
    (λ le. let under = under_later ds (max low x.evt) t x h (grind (arith, nat_tests, le, from)) dropped in rw (le, under) refl)
    (λ gt. rw gt refl)

-- what is kept is in force at some time
pub in_force_once : (low : ℕ) (ds : List Version) (x : RangeDeletion) → hidden low ds x ≡ false → is_in_force ds (max low x.evt) x ≡ true
in_force_once low ds x kept = let le : nat_le x.evt (max low x.evt) ≡ true = grind (arith, nat_tests) in rw (le, kept) refl

-- ---- what is kept
pub none_newer_filtered : (s : StampValue) (p : RangeDeletion → Bool) (xs : List RangeDeletion) → NoneNewer s xs → NoneNewer s (filter p xs)
none_newer_filtered s p [] h = tt
none_newer_filtered s p (x ∷ xs) h =
    by_cases (p x)
    (λ kept. rw kept (h.0, none_newer_filtered s p xs h.1))
    (λ gone. rw gone (none_newer_filtered s p xs h.1))

pub fall_filtered : (p : RangeDeletion → Bool) (xs : List RangeDeletion) → RangesFall xs → RangesFall (filter p xs)
fall_filtered p [] h = tt
fall_filtered p (x ∷ xs) h =
    by_cases (p x)
    (λ kept. rw kept (none_newer_filtered x.stamp p xs h.0, fall_filtered p xs h.1))
    (λ gone. rw gone (fall_filtered p xs h.1))

pub fall_kept : (low : ℕ) (deletions : List Version) (xs : List RangeDeletion) → RangesFall xs → RangesFall (kept_ranges low deletions xs)
fall_kept low deletions xs h = fall_filtered (λ x. not (hidden low deletions x)) xs h

-- a test that passes nothing of what goes is as before
pub filter_kept : (p q : RangeDeletion → Bool) → ((r : RangeDeletion) → q r ≡ false → p r ≡ false) → (xs : List RangeDeletion) → filter p (filter q xs) ≡ filter p xs
filter_kept p q h [] = refl
filter_kept p q h (x ∷ xs) =
    by_cases (q x)
    (λ kept. rw kept (by_cases (p x)
    (λ yes. rw yes (ap (λ (ys : List RangeDeletion). x ∷ ys) (filter_kept p q h xs)))
    (λ no. rw no (filter_kept p q h xs))))
    (λ gone. rw (gone, h x gone) (filter_kept p q h xs))

denied : (b : Bool) → not b ≡ false → b ≡ true
denied true h = refl
denied false h = absurd (cc)

pub in_force_kept : (low : ℕ) (deletions : List Version) (xs ys : List RangeDeletion) → IsFalling deletions → ys ≡ kept_ranges low deletions xs
    → (t : ℕ) → low ≤ t → in_force_at deletions ys t ≡ in_force_at deletions xs t
in_force_kept low deletions xs ys h is t from =
    ap (filter (is_in_force deletions t)) is
    ∙ filter_kept (is_in_force deletions t) (λ x. not (hidden low deletions x)) (λ x gone. never_in_force low t deletions x h from (denied (hidden low deletions x) gone)) xs

passes : (p : RangeDeletion → Bool) (xs : List RangeDeletion) (x : RangeDeletion) → Contains (filter p xs) x → Contains xs x × (p x ≡ true)
passes p [] x c = absurd (none_in_empty x c)
passes p (y ∷ ys) x c =
    by_cases (p y)
    (λ yes. ⊎_elim (λ e. (subst (Contains (y ∷ ys)) e (contains_first y ys), sym (ap p e) ∙ yes)) (λ r. let k = passes p ys x r in (contains_rest y x ys k.0, k.1)) (first_or_rest y x (filter p ys) (rw yes at c)))
    (λ no. let k = passes p ys x (rw no at c) in (contains_rest y x ys k.0, k.1))

passed : (p : RangeDeletion → Bool) (xs : List RangeDeletion) (x : RangeDeletion) → Contains xs x → p x ≡ true → Contains (filter p xs) x
passed p [] x c h = absurd (none_in_empty x c)
passed p (y ∷ ys) x c h =
    by_cases (p y)
    (λ yes. rw yes (⊎_elim (λ e. subst (Contains (y ∷ filter p ys)) e (contains_first y (filter p ys))) (λ r. contains_rest y x (filter p ys) (passed p ys x r h)) (first_or_rest y x ys c)))
    (λ no. rw no (⊎_elim (λ e. absurd (let k : p y ≡ true = ap p e ∙ h in cc)) (λ r. passed p ys x r h) (first_or_rest y x ys c)))

affirmed : (b : Bool) → not b ≡ true → b ≡ false
affirmed true h = absurd (cc)
affirmed false h = refl

pub kept_by_rule : (low : ℕ) (deletions : List Version) (xs ys : List RangeDeletion) → IsFalling deletions → ys ≡ kept_ranges low deletions xs
    → (x : RangeDeletion) → Contains ys x ↔ (Contains xs x × (has_newer_by low deletions x ≡ false))
kept_by_rule low deletions xs ys h is x =
    subst (λ (zs : List RangeDeletion). Contains zs x ↔ (Contains xs x × (has_newer_by low deletions x ≡ false))) (sym is) (
      λ c. let k = passes (λ y. not (hidden low deletions y)) xs x c in (k.0, hidden_by_rule low deletions x h ∙ affirmed (hidden low deletions x) k.1),
      λ k. passed (λ y. not (hidden low deletions y)) xs x k.0 (ap not (sym (hidden_by_rule low deletions x h) ∙ k.1)),
    )

-- the rule keeps what is in force at some time from then on
pub rule_keeps : (low : ℕ) (deletions : List Version) (x : RangeDeletion) → IsFalling deletions → (has_newer_by low deletions x ≡ false) ↔ IsInForceFrom low deletions x
rule_keeps low deletions x h = (
  λ kept. (max low x.evt, omega arith, in_force_once low deletions x (sym (hidden_by_rule low deletions x h) ∙ kept)),
  λ k. hidden_by_rule low deletions x h ∙ not_hidden k (hidden low deletions x) refl,
)
  where
    not_hidden : IsInForceFrom low deletions x → (b : Bool) → hidden low deletions x ≡ b → b ≡ false
    not_hidden k false e = refl
    not_hidden k true e = let never = never_in_force low k.0 deletions x h k.1 e in let ever = k.2 in absurd (cc)

pub kept_in_force : (low : ℕ) (deletions : List Version) (xs ys : List RangeDeletion) → IsFalling deletions → ys ≡ kept_ranges low deletions xs
    → (x : RangeDeletion) → Contains ys x ↔ (Contains xs x × IsInForceFrom low deletions x)
kept_in_force low deletions xs ys h is x =
    let rule = rule_keeps low deletions x h in
    let exact = kept_by_rule low deletions xs ys h is x in (
      λ c. let k = exact.0 c in (k.0, rule.0 k.1),
      λ k. exact.1 (k.0, rule.1 k.1),
    )

-- ---- by the order in which they lie
filter_reversed : (p : RangeDeletion → Bool) (xs : List RangeDeletion) → reverse (filter p xs) ≡ filter p (reverse xs)
filter_reversed p [] = refl
filter_reversed p (x ∷ xs) =
    sym (ap (filter p) (reverse-append (x ∷ []) xs) ∙ filter-append p (reverse xs) (x ∷ []) ∙ ap (λ (ys : List RangeDeletion). ys ++ filter p (x ∷ [])) (sym (filter_reversed p xs)) ∙ last)
  where
    last : reverse (filter p xs) ++ filter p (x ∷ []) ≡ reverse (filter p (x ∷ xs))
    last =
        by_cases (p x)
        (λ is. rw is (sym (reverse-append (x ∷ []) (filter p xs))))
        (λ not. rw not (append-nil (reverse (filter p xs))))

pub kept_reversed : (low : ℕ) (deletions : List Version) (xs ys : List RangeDeletion) → ys ≡ filter (λ r. not (hidden low deletions r)) xs → reverse ys ≡ kept_ranges low deletions (reverse xs)
kept_reversed low deletions xs ys is = ap reverse is ∙ filter_reversed (λ r. not (hidden low deletions r)) xs
