-- Where the versions of a chain end.
use Rattle.std.proofs.Common.{◌≡◌, refl, ◌∙◌, ap, sym, subst, ℕ, suc, ◌+◌, add-one, ◌^◌, ◌<◌, ◌≤◌, List, [], ◌∷◌, ◌++◌, map, take, drop, length, get_or, set, arith}
use Rattle.std.proofs.lemmas.Bool.Decides.{nat_tests}
use Rattle.std.specs.Prelude.{reverse, nat_lt, insert, remove}
use Rattle.std.proofs.lemmas.List.{append_assoc, append-nil, reverse-append, map-append, length-take-le, take_at, drop_at, take-take, take-set, drop-set-lt, get_or-set_same, length-set}
use Rattle.versions.specs.declared.entry.Entry.{Entry}
use Rattle.versions.specs.Chain.{least}
use Rattle.versions.specs.Ends.{AreEnded, LeadTo, versions_of}
use Rattle.versions.proofs.Tests.{by_cases}
use Rattle.versions.proofs.Reversed.{reverse_at, reverse_drop, reverse_take, reverse_parts}

pub least_below : (b e : ℕ) → least b e ≤ b
least_below b e = by_cases (nat_lt e b) (λ lt. rw lt (grind (arith, nat_tests, lt))) (λ ge. rw ge (omega arith))

-- of versions that end rightly, those from one on do, and others may follow those before it
pub ended_at : (b : ℕ) (newer : List Entry) (e : Entry) (older : List Entry) → AreEnded b (newer ++ e ∷ older)
    → ((es : List Entry) → AreEnded e.end es → AreEnded b (newer ++ es)) × AreEnded e.end (e ∷ older) × (e.end ≤ b)
ended_at b [] e older h = (
  λ es k. subst (λ (n : ℕ). AreEnded n es) h.0 k,
  (refl, h.1, subst (λ (n : ℕ). AreEnded (least n e.version.evt) older) (sym h.0) h.2),
  omega (arith, h.0),
)
ended_at b (x ∷ newer) e older h =
    let r = ended_at (least b x.version.evt) newer e older h.2 in
    let low = least_below b x.version.evt in
    (λ es k. (h.0, h.1, r.0 es k), r.1, omega (arith, r.2, low))

pub ended_at_index : (es : List Entry) (i : ℕ) (d : Entry) → i < length es → AreEnded (2 ^ 48) (reverse es)
    → LeadTo (reverse (drop (i + 1) es)) (get_or es i d).end × AreEnded (get_or es i d).end (get_or es i d ∷ reverse (take i es)) × ((get_or es i d).end ≤ 2 ^ 48)
ended_at_index es i d lt h =
    ended_at (2 ^ 48) (reverse (drop (i + 1) es)) (get_or es i d) (reverse (take i es)) (subst (AreEnded (2 ^ 48)) (reverse_at es i d lt) h)

-- what follows a version too
lead_more : (newer : List Entry) (b : ℕ) (e : Entry) → LeadTo newer b → AreEnded b (e ∷ []) → LeadTo (newer ++ e ∷ []) (least b e.version.evt)
lead_more newer b e lead k xs m =
    subst (AreEnded (2 ^ 48)) (sym (append_assoc newer (e ∷ []) xs)) (lead (e ∷ xs) (k.0, k.1, m))

-- the end of a version that goes to an index
pub below_index : (es : List Entry) (i : ℕ) (d : Entry) → i < length es → AreEnded (2 ^ 48) (reverse es)
    → LeadTo (reverse (drop i es)) (least (get_or es i d).end (get_or es i d).version.evt) × AreEnded (least (get_or es i d).end (get_or es i d).version.evt) (reverse (take i es))
below_index es i d lt h =
    let e = get_or es i d in
    let k = ended_at_index es i d lt h in (
      subst (λ (fs : List Entry). LeadTo fs (least e.end e.version.evt)) (sym (reverse_drop es i d lt))
          (lead_more (reverse (drop (i + 1) es)) e.end e k.0 (refl, k.1.1, tt)),
      k.1.2,
    )

-- ---- an entry that comes or goes
pub inserted : (es : List Entry) (i : ℕ) (e : Entry) → i ≤ length es → e.version.evt < 2 ^ 48 → LeadTo (reverse (drop i es)) e.end → AreEnded e.end (reverse (take i es))
    → LeadTo (reverse (drop i (insert es i e))) (least e.end e.version.evt) × AreEnded e.end (reverse (take i (insert es i e)))
inserted es i e le time lead older =
    let long = length-take-le i es le in (
      subst (λ (fs : List Entry). LeadTo fs (least e.end e.version.evt))
          (sym (ap reverse (drop_at (take i es) (e ∷ drop i es) i long) ∙ reverse-append (e ∷ []) (drop i es)))
          (lead_more (reverse (drop i es)) e.end e lead (refl, time, tt)),
      subst (λ (fs : List Entry). AreEnded e.end (reverse fs)) (sym (take_at (take i es) (e ∷ drop i es) i long)) older,
    )

pub removed : (es : List Entry) (i : ℕ) (d : Entry) → i < length es → AreEnded (2 ^ 48) (reverse es)
    → LeadTo (reverse (drop i (remove es i))) (get_or es i d).end × AreEnded (least (get_or es i d).end (get_or es i d).version.evt) (reverse (take i (remove es i)))
removed es i d lt h =
    let long = length-take-le i es (omega (arith, lt)) in
    let k = ended_at_index es i d lt h in (
      subst (λ (fs : List Entry). LeadTo (reverse fs) (get_or es i d).end)
          (sym (drop_at (take i es) (drop (suc i) es) i long ∙ ap (λ (n : ℕ). drop n es) (sym (add-one i)))) k.0,
      subst (λ (fs : List Entry). AreEnded (least (get_or es i d).end (get_or es i d).version.evt) (reverse fs)) (sym (take_at (take i es) (drop (suc i) es) i long)) k.1.2,
    )

-- ---- versions by their entries
pub versions_at : (es : List Entry) (i : ℕ) (d : Entry) → i < length es → versions_of es ≡ versions_of (drop (i + 1) es) ++ (get_or es i d).version ∷ versions_of (take i es)
versions_at es i d lt =
    ap (map (λ (e : Entry). e.version)) (reverse_at es i d lt)
    ∙ map-append (λ (e : Entry). e.version) (reverse (drop (i + 1) es)) (get_or es i d ∷ reverse (take i es))

-- ---- a version that ends elsewhere
abbrev with_end : List Entry → ℕ → Entry → ℕ → Entry
with_end es i d n = record { version = (get_or es i d).version; end = n }

pub versions_stay : (es : List Entry) (i : ℕ) (d : Entry) (n : ℕ) → i < length es → versions_of (set es i (with_end es i d n)) ≡ versions_of es
versions_stay es i d n lt =
    let x = with_end es i d n in
    let long = length-set es i x in
    versions_at (set es i x) i x (omega (arith, long, lt))
    ∙ rw (drop-set-lt (i + 1) es i x (omega arith), take-set es i x, get_or-set_same es i x x lt) (sym (versions_at es i d lt))

pub lead_step : (es : List Entry) (i : ℕ) (d e : Entry) (n m : ℕ) → i < length es → (get_or (set es i (with_end es i d n)) i e).version.evt < 2 ^ 48
    → m ≡ least n (get_or (set es i (with_end es i d n)) i e).version.evt → LeadTo (reverse (drop (i + 1) es)) n → LeadTo (reverse (drop i (set es i (with_end es i d n)))) m
lead_step es i d e n m lt time end lead =
    let x = with_end es i d n in
    let is = get_or-set_same es i x e lt in
    let long = length-set es i x in
    let last : reverse (drop i (set es i x)) ≡ reverse (drop (i + 1) es) ++ x ∷ [] =
    reverse_drop (set es i x) i x (omega (arith, long, lt)) ∙ rw (drop-set-lt (i + 1) es i x (omega arith), get_or-set_same es i x x lt) refl in
    subst (LeadTo (reverse (drop i (set es i x)))) (sym (end ∙ ap (λ (y : Entry). least n y.version.evt) is))
    (subst (λ (fs : List Entry). LeadTo fs (least n x.version.evt)) (sym last)
    (lead_more (reverse (drop (i + 1) es)) n x lead (refl, subst (λ (y : Entry). y.version.evt < 2 ^ 48) is time, tt)))

-- ---- where the mending ends
pub mended_all : (es : List Entry) (n : ℕ) → LeadTo (reverse (drop 0 es)) n → AreEnded (2 ^ 48) (reverse es)
mended_all es n lead = subst (AreEnded (2 ^ 48)) (append-nil (reverse es)) (lead [] tt)

pub mended_before : (es first : List Entry) (i index b n : ℕ) (e : Entry) → i < length es → e ≡ get_or es i e → i + 1 ≤ index
    → take (i + 1) es ≡ take (i + 1) first → AreEnded b (reverse (take index first)) → e.end ≡ n → LeadTo (reverse (drop (i + 1) es)) n
    → AreEnded (2 ^ 48) (reverse es)
mended_before es first i index b n e lt is le same older end lead =
    let split : reverse (take index first) ≡ reverse (drop (i + 1) (take index first)) ++ e ∷ reverse (take i es) =
    reverse_parts (take index first) (i + 1)
    ∙ ap (λ (fs : List Entry). reverse (drop (i + 1) (take index first)) ++ reverse fs) (take-take (i + 1) index first le ∙ sym same)
    ∙ ap (λ (fs : List Entry). reverse (drop (i + 1) (take index first)) ++ fs) (reverse_take es i e lt)
    ∙ ap (λ (x : Entry). reverse (drop (i + 1) (take index first)) ++ x ∷ reverse (take i es)) (sym is) in
    let k = ended_at b (reverse (drop (i + 1) (take index first))) e (reverse (take i es)) (subst (AreEnded b) split older) in
    subst (AreEnded (2 ^ 48))
    (ap (λ (x : Entry). reverse (drop (i + 1) es) ++ x ∷ reverse (take i es)) is ∙ sym (reverse_at es i e lt))
    (lead (e ∷ reverse (take i es)) (subst (λ (m : ℕ). AreEnded m (e ∷ reverse (take i es))) end k.1))
