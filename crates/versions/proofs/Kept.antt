-- What a chain keeps from a time on.
use Rattle.std.proofs.Common.{◌≡◌, refl, ◌∙◌, ap, sym, subst, ℕ, ◌^◌, ◌<◌, ◌≤◌, Bool, true, false, List, [], ◌∷◌, ◌++◌, map, length, arith}
use Rattle.std.proofs.lemmas.Bool.Decides.{nat_tests}
use Rattle.std.proofs.lemmas.List.{reverse-append, append-nil}
use Rattle.std.proofs.lemmas.List.Elements.{filter-append}
use Rattle.std.specs.Prelude.{reverse, nat_lt, filter}
use Rattle.logical_time.specs.Stamps.{StampValue}
use Rattle.versions.specs.declared.version.Version.{Version}
use Rattle.versions.specs.declared.entry.Entry.{Entry}
use Rattle.versions.specs.Chain.{AreOlder, IsFalling, least, is_kept, kept_below, kept_from}
use Rattle.versions.specs.Ends.{AreEnded, versions_of}
use Rattle.versions.proofs.Tests.{by_cases}
use Rattle.versions.proofs.Ended.{least_below}

older_kept : (s : StampValue) (t b : ℕ) (xs : List Version) → AreOlder s xs → AreOlder s (kept_below t b xs)
older_kept s t b [] h = tt
older_kept s t b (x ∷ xs) h =
    by_cases (is_kept t b x.evt)
    (λ kept. rw kept (h.0, older_kept s t x.evt xs h.1))
    (λ gone. rw gone (older_kept s t b xs h.1))

falling_below : (t b : ℕ) (xs : List Version) → IsFalling xs → IsFalling (kept_below t b xs)
falling_below t b [] h = tt
falling_below t b (x ∷ xs) h =
    by_cases (is_kept t b x.evt)
    (λ kept. rw kept (older_kept x.stamp t x.evt xs h.0, falling_below t x.evt xs h.1))
    (λ gone. rw gone (falling_below t b xs h.1))

pub falling_kept : (t : ℕ) (xs : List Version) → IsFalling xs → IsFalling (kept_from t xs)
falling_kept t [] h = tt
falling_kept t (x ∷ xs) h = (older_kept x.stamp t x.evt xs h.0, falling_below t x.evt xs h.1)

-- ---- versions that are kept, by their ends
abbrev pub stays : ℕ → Entry → Bool
stays t e = is_kept t e.end e.version.evt

none_kept : (t b : ℕ) (xs : List Version) → b ≤ t → kept_below t b xs ≡ []
none_kept t b [] le = refl
none_kept t b (x ∷ xs) le =
    let gone : is_kept t b x.evt ≡ false = grind (arith, nat_tests, le) in
    rw gone (none_kept t b xs le)

none_stays : (t b : ℕ) (es : List Entry) → b ≤ t → AreEnded b es → filter (stays t) es ≡ []
none_stays t b [] le h = refl
none_stays t b (e ∷ es) le h =
    let end = h.0 in
    let gone : stays t e ≡ false = grind (arith, nat_tests, le, end) in
    let low = least_below b e.version.evt in
    rw gone (none_stays t (least b e.version.evt) es (omega (arith, le, low)) h.2)

-- the versions that stay, and where they end
abbrev AreKept : ℕ → ℕ → List Entry → Type 0
AreKept t b es = AreEnded b (filter (stays t) es) × (map (λ e. e.version) (filter (stays t) es) ≡ kept_below t b (map (λ e. e.version) es))

are_kept : (t b : ℕ) (es : List Entry) → AreEnded b es → AreKept t b es
are_kept t b [] h = (tt, refl)
are_kept t b (e ∷ es) h =
    let evt = e.version.evt in
    by_cases (nat_lt evt b)
    (λ lt.
    let next : least b evt ≡ evt = rw lt refl in
    let rest = subst (λ (n : ℕ). AreEnded n es) next h.2 in
    by_cases (nat_lt t b)
    (λ before.
    let kept : is_kept t b evt ≡ true = rw (lt, before) refl in
    let stay : stays t e ≡ true = subst (λ (n : ℕ). is_kept t n evt ≡ true) (sym h.0) kept in
    let k = are_kept t evt es rest in
    rw (stay, kept) ((h.0, h.1, subst (λ (n : ℕ). AreEnded n (filter (stays t) es)) (sym next) k.0), ap (λ (xs : List Version). e.version ∷ xs) k.1))
    (λ after.
    let le : b ≤ t = grind (arith, nat_tests, after) in
    let kept : is_kept t b evt ≡ false = rw (lt, after) refl in
    let stay : stays t e ≡ false = subst (λ (n : ℕ). is_kept t n evt ≡ false) (sym h.0) kept in
    let low = least_below b evt in
    let none = none_stays t (least b evt) es (omega (arith, le, low)) h.2 in
    rw (stay, kept, none) (tt, sym (none_kept t b (map (λ e. e.version) es) le))))
    (λ ge.
    let next : least b evt ≡ b = rw ge refl in
    let kept : is_kept t b evt ≡ false = rw ge refl in
    let stay : stays t e ≡ false = subst (λ (n : ℕ). is_kept t n evt ≡ false) (sym h.0) kept in
    rw (stay, kept) (are_kept t b es (subst (λ (n : ℕ). AreEnded n es) next h.2)))

filter_reversed : (p : Entry → Bool) (es : List Entry) → reverse (filter p es) ≡ filter p (reverse es)
filter_reversed p [] = refl
filter_reversed p (e ∷ es) =
    sym (ap (filter p) (reverse-append (e ∷ []) es) ∙ filter-append p (reverse es) (e ∷ []) ∙ ap (λ (xs : List Entry). xs ++ filter p (e ∷ [])) (sym (filter_reversed p es)) ∙ last)
  where
    last : reverse (filter p es) ++ filter p (e ∷ []) ≡ reverse (filter p (e ∷ es))
    last =
        by_cases (p e)
        (λ is. rw is (sym (reverse-append (e ∷ []) (filter p es))))
        (λ not. rw not (append-nil (reverse (filter p es))))

kept_from_below : (t : ℕ) (es : List Entry) → t < 2 ^ 48 → AreEnded (2 ^ 48) es → kept_below t (2 ^ 48) (map (λ e. e.version) es) ≡ kept_from t (map (λ e. e.version) es)
kept_from_below t [] lt h = refl
kept_from_below t (e ∷ es) lt h =
    let time = h.1 in
    let kept : is_kept t (2 ^ 48) e.version.evt ≡ true = grind (arith, nat_tests, lt, time) in
    rw kept refl

pub kept_by_ends : (t : ℕ) (es fs : List Entry) → t < 2 ^ 48 → AreEnded (2 ^ 48) (reverse es) → fs ≡ filter (stays t) es
    → AreEnded (2 ^ 48) (reverse fs) × (versions_of fs ≡ kept_from t (versions_of es))
kept_by_ends t es fs lt h is =
    let same = ap reverse is ∙ filter_reversed (stays t) es in
    let k = are_kept t (2 ^ 48) (reverse es) h in (
      subst (AreEnded (2 ^ 48)) (sym same) k.0,
      ap (map (λ (e : Entry). e.version)) same ∙ k.1 ∙ kept_from_below t (reverse es) lt h,
    )

pub kept_if_one : (t : ℕ) (es : List Entry) → length es < 2 → versions_of es ≡ kept_from t (versions_of es)
kept_if_one t [] lt = refl
kept_if_one t (e ∷ []) lt = refl
kept_if_one t (e ∷ f ∷ es) lt = absurd (omega (arith, lt))
