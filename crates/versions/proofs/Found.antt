-- What is found by the ends of versions.
use Rattle.std.proofs.Common.{◌≡◌, refl, ◌∙◌, ap, sym, subst, ℕ, zero, suc, add-one, ◌+◌, ◌-◌, ◌^◌, ◌<◌, ◌≤◌, true, false, nat_le, List, [], ◌∷◌, ◌++◌, map, take, drop, length, get_or, Some, None, if◌then◌else◌, arith}
use Rattle.std.proofs.lemmas.Bool.Decides.{nat_tests}
use Rattle.std.proofs.lemmas.List.{get_or-take, length-take-le, length-reverse, length-drop, length-map, drop_all, reverse-append, map-append}
use Rattle.std.specs.Prelude.{reverse, nat_lt, slice_get, remove}
use Rattle.std.specs.List.Sorted.{IsPartitionedBy, IsPartitionPoint}
use Rattle.versions.specs.declared.version.Version.{Version}
use Rattle.versions.specs.declared.entry.Entry.{Entry}
use Rattle.versions.specs.Chain.{least, at_of, interval_if, interval_of}
use Rattle.versions.specs.Ends.{AreEnded, versions_of}
use Rattle.versions.proofs.Tests.{by_cases}
use Rattle.versions.proofs.Reversed.{reverse_at, reverse_take, slice_get_at, remove_at}
use Rattle.versions.proofs.Ended.{least_below, ended_at, ended_at_index, versions_at}

-- ---- ends rise with the stamps
end_in : (b : ℕ) (es : List Entry) (i : ℕ) (d : Entry) → i < length es → AreEnded b (reverse es) → (get_or es i d).end ≤ b
end_in b es i d lt h =
    (ended_at b (reverse (drop (i + 1) es)) (get_or es i d) (reverse (take i es)) (subst (AreEnded b) (reverse_at es i d lt) h)).2

ends_rise : (es : List Entry) (i j : ℕ) (d : Entry) → i < j → j < length es → AreEnded (2 ^ 48) (reverse es) → (get_or es i d).end ≤ (get_or es j d).end
ends_rise es i j d lt inside h =
    let e = get_or es j d in
    let k = ended_at_index es j d inside h in
    let long = length-take-le j es (omega (arith, inside)) in
    let low = end_in (least e.end e.version.evt) (take j es) i d (omega (arith, lt, long)) k.1.2 in
    let same = ap (λ (x : Entry). x.end) (get_or-take j es i d lt) in
    let below = least_below e.end e.version.evt in
    omega (arith, low, same, below)

pub ends_part : (es : List Entry) (t : ℕ) → AreEnded (2 ^ 48) (reverse es) → IsPartitionedBy (λ e. nat_le e.end t) es
ends_part es t h i j d le inside seen =
    by_cases (nat_lt i j)
    (λ lt. let rise = ends_rise es i j d (grind (arith, nat_tests, lt)) inside h in grind (arith, nat_tests, rise, seen))
    (λ ge. let same : i ≡ j = grind (arith, nat_tests, le, ge) in subst (λ (n : ℕ). nat_le (get_or es n d).end t ≡ true) (sym same) seen)

ends_before : (es : List Entry) (i t : ℕ) → IsPartitionPoint (λ e. nat_le e.end t ≡ true) (λ e. nat_le e.end t ≡ false) es i → (k : ℕ) (d : Entry) → k < i → (get_or es k d).end ≤ t
ends_before es i t point k d lt = let le = point.0 k d (omega arith) lt in grind (arith, nat_tests, le)

-- ---- the newest at a time
none_newer : (t b : ℕ) (newer : List Entry) (e : Entry) (older : List Entry) (rest : List Version) → AreEnded b (newer ++ e ∷ older) → t < e.end
    → at_of (map (λ x. x.version) newer ++ rest) t ≡ at_of rest t
none_newer t b [] e older rest h lt = refl
none_newer t b (x ∷ newer) e older rest h lt =
    let k = (ended_at (least b x.version.evt) newer e older h.2).2 in
    let least_is : least b x.version.evt ≤ x.version.evt = by_cases (nat_lt x.version.evt b) (λ l. rw l (omega arith)) (λ g. rw g (grind (arith, nat_tests, g))) in
    let late : nat_le x.version.evt t ≡ false = grind (arith, nat_tests, k, least_is, lt) in
    rw late (none_newer t (least b x.version.evt) newer e older rest h.2 lt)

at_index : (es : List Entry) (i t : ℕ) (e : Entry) → i < length es → e ≡ get_or es i e → AreEnded (2 ^ 48) (reverse es) → t < e.end
    → (0 < i → (get_or es (i - 1) e).end ≤ t)
    → at_of (versions_of es) t ≡ (if nat_le e.version.evt t then Some e.version else None)
at_index es i t e lt is h before after =
    let newer = reverse (drop (i + 1) es) in
    let older = reverse (take i es) in
    let k = subst (λ (x : Entry). AreEnded (2 ^ 48) (newer ++ x ∷ older)) (sym is) (subst (AreEnded (2 ^ 48)) (reverse_at es i e lt) h) in
    let parts = versions_at es i e lt ∙ ap (λ (x : Entry). versions_of (drop (i + 1) es) ++ x.version ∷ versions_of (take i es)) (sym is) in
    ap (λ (xs : List Version). at_of xs t) parts
    ∙ none_newer t (2 ^ 48) newer e older (e.version ∷ versions_of (take i es)) k before
    ∙ by_cases (nat_le e.version.evt t)
    (λ le. rw le refl)
    (λ gt. rw gt (none gt i lt after (ended_at (2 ^ 48) newer e older k).1.2))
  where
    none : nat_le e.version.evt t ≡ false → (i : ℕ) → i < length es → (0 < i → (get_or es (i - 1) e).end ≤ t)
        → AreEnded (least e.end e.version.evt) (reverse (take i es)) → at_of (versions_of (take i es)) t ≡ None
    none gt zero lt after h = refl
    none gt (suc i) lt after h =
        let inside : i < length es = omega (arith, lt) in
        let one : suc i ≡ i + 1 = omega arith in
        let first = subst (AreEnded (least e.end e.version.evt)) (ap (λ (n : ℕ). reverse (take n es)) one ∙ reverse_take es i e inside) h in
        let end = first.0 in
        let back : suc i - 1 ≡ i = omega arith in
        let low = subst (λ (n : ℕ). (get_or es n e).end ≤ t) back (after (omega arith)) in
        let high : t < least e.end e.version.evt = by_cases (nat_lt e.version.evt e.end) (λ l. rw l (grind (arith, nat_tests, gt))) (λ g. rw g before) in
        absurd (omega (arith, end, low, high))

at_past : (es : List Entry) (t : ℕ) → AreEnded (2 ^ 48) (reverse es) → t < 2 ^ 48 → ((k : ℕ) (d : Entry) → k < length es → (get_or es k d).end ≤ t) → at_of (versions_of es) t ≡ None
at_past [] t h lt all = refl
at_past (x ∷ xs) t h lt all =
    let es = x ∷ xs in
    let n = length xs in
    let inside : n < length es = omega arith in
    let e = get_or es n x in
    let top = subst (λ (ys : List Entry). AreEnded (2 ^ 48) (reverse ys ++ e ∷ reverse (take n es))) (drop_all (n + 1) es (omega arith)) (subst (AreEnded (2 ^ 48)) (reverse_at es n x inside) h) in
    let end = top.0 in
    let low = all n x inside in
    absurd (omega (arith, end, low, lt))

-- what the place tells that parts those that end by the time from the others
pub seen_from_point : (es : List Entry) (i t : ℕ) (e : Entry) → IsPartitionPoint (λ x. nat_le x.end t ≡ true) (λ x. nat_le x.end t ≡ false) es i → AreEnded (2 ^ 48) (reverse es)
    → i < length es → e ≡ get_or es i e → at_of (versions_of es) t ≡ (if nat_le e.version.evt t then Some e.version else None)
seen_from_point es i t e point h lt is =
    let late = point.1 i e (omega arith) lt in
    let end = ap (λ (x : Entry). x.end) is in
    at_index es i t e lt is h (grind (arith, nat_tests, late, end)) (λ some. ends_before es i t point (i - 1) e (omega (arith, some)))

pub none_from_point : (es : List Entry) (i t : ℕ) → IsPartitionPoint (λ x. nat_le x.end t ≡ true) (λ x. nat_le x.end t ≡ false) es i → AreEnded (2 ^ 48) (reverse es) → t < 2 ^ 48
    → length es ≤ i → at_of (versions_of es) t ≡ None
none_from_point es i t point h lt le = at_past es t h lt (λ k d inside. ends_before es i t point k d (omega (arith, inside, le)))

-- ---- intervals by ends
interval_in : (b : ℕ) (newer : List Entry) (e : Entry) (older : List Entry) (place : ℕ) → length newer ≡ place → AreEnded b (newer ++ e ∷ older)
    → interval_of b (map (λ x. x.version) (newer ++ e ∷ older)) place ≡ interval_if (nat_lt e.version.evt e.end) e.version.evt e.end
interval_in b [] e older zero is h = ap (λ (n : ℕ). interval_if (nat_lt e.version.evt n) e.version.evt n) (sym h.0)
interval_in b [] e older (suc place) is h = absurd (omega (arith, is))
interval_in b (x ∷ newer) e older zero is h = absurd (omega (arith, is))
interval_in b (x ∷ newer) e older (suc place) is h = interval_in (least b x.version.evt) newer e older place (omega (arith, is)) h.2

above : (es : List Entry) (i place : ℕ) → i + place + 1 ≡ length es → length (reverse (drop (i + 1) es)) ≡ place
above es i place is =
    let a = length-reverse (drop (i + 1) es) in
    let b = length-drop (i + 1) es in
    omega (arith, a, b, is)

pub interval_at_index : (es : List Entry) (i place : ℕ) (e : Entry) → i + place + 1 ≡ length es → e ≡ get_or es i e → AreEnded (2 ^ 48) (reverse es)
    → (interval_of (2 ^ 48) (versions_of es) place ≡ interval_if (nat_lt e.version.evt e.end) e.version.evt e.end) × (e.end ≤ 2 ^ 48)
interval_at_index es i place e sum is h =
    let lt : i < length es = omega (arith, sum) in
    let newer = reverse (drop (i + 1) es) in
    let older = reverse (take i es) in
    let split = reverse_at es i e lt ∙ ap (λ (x : Entry). newer ++ x ∷ older) (sym is) in
    let k = subst (AreEnded (2 ^ 48)) split h in (
      ap (λ (xs : List Entry). interval_of (2 ^ 48) (map (λ x. x.version) xs) place) split ∙ interval_in (2 ^ 48) newer e older place (above es i place sum) k,
      (ended_at (2 ^ 48) newer e older k).2,
    )

pub interval_past : (b : ℕ) (xs : List Version) (place : ℕ) → length xs ≤ place → interval_of b xs place ≡ None
interval_past b [] place le = refl
interval_past b (x ∷ xs) zero le = absurd (omega (arith, le))
interval_past b (x ∷ xs) (suc place) le = interval_past (least b x.evt) xs place (omega (arith, le))

-- ---- a place by its index
above_versions : (es : List Entry) (i place : ℕ) → i + place + 1 ≡ length es → length (versions_of (drop (i + 1) es)) ≡ place
above_versions es i place is = length-map (reverse (drop (i + 1) es)) (λ (x : Entry). x.version) ∙ above es i place is

pub get_at_index : (es : List Entry) (i place : ℕ) (d : Entry) → i + place + 1 ≡ length es → slice_get (versions_of es) place ≡ Some (get_or es i d).version
get_at_index es i place d is =
    ap (λ (xs : List Version). slice_get xs place) (versions_at es i d (omega (arith, is)))
    ∙ slice_get_at (versions_of (drop (i + 1) es)) (get_or es i d).version (versions_of (take i es)) place (above_versions es i place is)

pub remove_at_index : (es : List Entry) (i place : ℕ) (d : Entry) → i + place + 1 ≡ length es → remove (versions_of es) place ≡ versions_of (remove es i)
remove_at_index es i place d is =
    ap (λ (xs : List Version). remove xs place) (versions_at es i d (omega (arith, is)))
    ∙ remove_at (versions_of (drop (i + 1) es)) (get_or es i d).version (versions_of (take i es)) place (above_versions es i place is)
    ∙ ap (λ (n : ℕ). versions_of (drop n es) ++ versions_of (take i es)) (add-one i)
    ∙ sym (ap (map (λ (x : Entry). x.version)) (reverse-append (take i es) (drop (suc i) es)) ∙ map-append (λ (x : Entry). x.version) (reverse (drop (suc i) es)) (reverse (take i es)))

pub versions_long : (es : List Entry) → length (versions_of es) ≡ length es
versions_long es = length-map (reverse es) (λ (x : Entry). x.version) ∙ length-reverse es
