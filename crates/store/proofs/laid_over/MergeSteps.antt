-- The steps of a merge: what was added, and what is left to merge.
use Rattle.std.proofs.Common.{◌≡◌, ◌∙◌, refl, sym, ap, ℕ, ◌+◌, ◌<◌, ◌⊎◌, inl, inr, List, [], ◌∷◌, ◌++◌, map, drop, length, get_or, append-nil, arith}
use Rattle.std.proofs.lemmas.List.{map-append, append_assoc, drop_more}
use Rattle.std.specs.declared.cmp.Ordering.{Ordering}
use Rattle.std.specs.declared.cmp.Ordering.TheVariants.{Less, Equal, Greater}
use Rattle.store.specs.declared.sight.Seen.{Seen}
use Rattle.store.specs.Stored.{name_cmp}
use Rattle.store.specs.Sight.{NamedVersion, named, first_by, merged_by, merged}
use Rattle.store.proofs.laid_over.Merged.{none_merged}

-- what is added, and then what is left of both lists merged
abbrev pub with_left : List Seen → List Seen → ℕ → List Seen → ℕ → List NamedVersion
with_left all ones i others j = map named all ++ merged (map named (drop i ones)) (map named (drop j others))

-- the first that is left
first_left : (xs : List Seen) (i : ℕ) (x : Seen) → i < length xs → x ≡ get_or xs i x → map named (drop i xs) ≡ named x ∷ map named (drop (i + 1) xs)
first_left xs i x lt is =
    ap (map named) (drop_more xs i x lt) ∙ ap (λ (z : Seen). named z ∷ map named (drop (i + 1) xs)) (sym is)

-- the firsts that are left, by how their names compare
step : (ones : List Seen) (i : ℕ) (x : Seen) (others : List Seen) (j : ℕ) (y : Seen) (o : Ordering) → i < length ones → x ≡ get_or ones i x → j < length others
    → y ≡ get_or others j y → name_cmp (named x).0 (named y).0 ≡ o
    → merged (map named (drop i ones)) (map named (drop j others))
    ≡ merged_by o (named x) (named y) (merged (map named (drop (i + 1) ones)) (map named (drop j others)))
    (merged (map named (drop (i + 1) ones)) (map named (drop (j + 1) others))) (merged (map named (drop i ones)) (map named (drop (j + 1) others)))
step ones i x others j y o i_lt x_is j_lt y_is e =
    let xs = map named (drop (i + 1) ones) in
    let ys = map named (drop (j + 1) others) in
    let first = first_left ones i x i_lt x_is in
    let second = first_left others j y j_lt y_is in
    ap (λ (zs : List NamedVersion). merged zs (map named (drop j others))) first
    ∙ ap (merged (named x ∷ xs)) second
    ∙ ap (λ (p : Ordering). merged_by p (named x) (named y) (merged xs (named y ∷ ys)) (merged xs ys) (merged (named x ∷ xs) ys)) e
    ∙ ap (λ (zs : List NamedVersion). merged_by o (named x) (named y) (merged xs zs) (merged xs ys) (merged (named x ∷ xs) ys)) (sym second)
    ∙ ap (λ (zs : List NamedVersion). merged_by o (named x) (named y) (merged xs (map named (drop j others))) (merged xs ys) (merged zs ys)) (sym first)

-- one is added, which stood first of what is left
one_added : (all more : List Seen) (z : Seen) (rest left whole : List NamedVersion) → more ≡ all ++ z ∷ [] → left ≡ named z ∷ rest → map named all ++ left ≡ whole → map named more ++ rest ≡ whole
one_added all more z rest left whole pushed first so_far =
    ap (λ (zs : List Seen). map named zs ++ rest) pushed
    ∙ ap (λ (zs : List NamedVersion). zs ++ rest) (map-append named all (z ∷ []))
    ∙ append_assoc (map named all) (named z ∷ []) rest
    ∙ ap (λ (zs : List NamedVersion). map named all ++ zs) (sym first)
    ∙ so_far

-- the first of both is added
pub first_taken : (ones : List Seen) (i : ℕ) (x : Seen) (others : List Seen) (j : ℕ) (y z : Seen) (a b : ℕ) (all more : List Seen) (whole : List NamedVersion) → i < length ones → x ≡ get_or ones i x
    → j < length others → y ≡ get_or others j y → (named z, a, b) ≡ first_by (name_cmp (named x).0 (named y).0) (named x) (named y) → more ≡ all ++ z ∷ []
    → with_left all ones i others j ≡ whole → with_left more ones (i + a) others (j + b) ≡ whole
first_taken ones i x others j y z a b all more whole i_lt x_is j_lt y_is first pushed so_far = go (name_cmp (named x).0 (named y).0) refl first
  where
    added : (m n : ℕ) → m ≡ i + a → n ≡ j + b → merged (map named (drop i ones)) (map named (drop j others)) ≡ named z ∷ merged (map named (drop m ones)) (map named (drop n others))
        → with_left more ones (i + a) others (j + b) ≡ whole
    added m n at and_at left =
        sym (ap (λ (k : ℕ). with_left more ones k others n) at ∙ ap (λ (k : ℕ). with_left more ones (i + a) others k) and_at)
        ∙ one_added all more z (merged (map named (drop m ones)) (map named (drop n others))) (merged (map named (drop i ones)) (map named (drop j others))) whole pushed left so_far

    go : (o : Ordering) → name_cmp (named x).0 (named y).0 ≡ o → (named z, a, b) ≡ first_by o (named x) (named y) → with_left more ones (i + a) others (j + b) ≡ whole
    go Less e is =
        let one = ap (λ (t : NamedVersion × ℕ × ℕ). t.1) is in
        let none = ap (λ (t : NamedVersion × ℕ × ℕ). t.2) is in
        added (i + 1) j (omega (arith, one)) (omega (arith, none))
        (step ones i x others j y Less i_lt x_is j_lt y_is e ∙ ap (λ (s : NamedVersion). s ∷ merged (map named (drop (i + 1) ones)) (map named (drop j others))) (sym (ap (λ (t : NamedVersion × ℕ × ℕ). t.0) is)))
    go Equal e is =
        let one = ap (λ (t : NamedVersion × ℕ × ℕ). t.1) is in
        let two = ap (λ (t : NamedVersion × ℕ × ℕ). t.2) is in
        added (i + 1) (j + 1) (omega (arith, one)) (omega (arith, two))
        (step ones i x others j y Equal i_lt x_is j_lt y_is e ∙ ap (λ (s : NamedVersion). s ∷ merged (map named (drop (i + 1) ones)) (map named (drop (j + 1) others))) (sym (ap (λ (t : NamedVersion × ℕ × ℕ). t.0) is)))
    go Greater e is =
        let none = ap (λ (t : NamedVersion × ℕ × ℕ). t.1) is in
        let one = ap (λ (t : NamedVersion × ℕ × ℕ). t.2) is in
        added i (j + 1) (omega (arith, none)) (omega (arith, one))
        (step ones i x others j y Greater i_lt x_is j_lt y_is e ∙ ap (λ (s : NamedVersion). s ∷ merged (map named (drop i ones)) (map named (drop (j + 1) others))) (sym (ap (λ (t : NamedVersion × ℕ × ℕ). t.0) is)))

-- where one list is used up, the other is what is left
pub used_up : (xs ys : List NamedVersion) → (xs ≡ []) ⊎ (ys ≡ []) → merged xs ys ≡ xs ++ ys
used_up xs ys (inl e) = ap (λ (zs : List NamedVersion). merged zs ys) e ∙ ap (λ (zs : List NamedVersion). zs ++ ys) (sym e)
used_up xs ys (inr e) = ap (merged xs) e ∙ none_merged xs ∙ sym (append-nil xs) ∙ ap (λ (zs : List NamedVersion). xs ++ zs) (sym e)
