-- Names that rise, and range deletions by their first names.
use Rattle.std.proofs.Common.{◌≡◌, refl, ◌∙◌, ap, sym, ℕ, zero, suc, ◌<◌, Bool, true, false, List, [], ◌∷◌, Option, Some, None, length, get_or, arith}
use Rattle.std.specs.Prelude.{slice_get, not, ◌||◌, MatchOption, ⊤}
use Rattle.std.specs.declared.cmp.Ordering.{Ordering}
use Rattle.std.specs.declared.cmp.Ordering.TheVariants.{Less, Equal, Greater}
use Rattle.std.specs.Ordering.{nat_cmp, is_lt, is_le, ordering_reverse}
use Rattle.std.specs.Cmp.Lexicographic.{slice_cmp}
use Rattle.std.specs.List.Sorted.{IsSortedBy}
use Rattle.std.proofs.lemmas.Cmp.{nat_list_cmp_total}
use Rattle.std.proofs.lemmas.Map.Lookups.{exact_bytes}
use Rattle.std.proofs.lemmas.List.Sorted.{ranks_by, sorted_far}
use Rattle.column_family.specs.Names.{name_le, is_open}
use Rattle.versions.specs.declared.range.RangeDeletion.{RangeDeletion}
use Rattle.versions.specs.Sweeps.{is_come_to, is_left, name_of, start_of, start_at, is_before, AreSeen, AreByStart}

le_by : (a b c : List ℕ) (o u : Ordering) → slice_cmp nat_cmp a b ≡ o → slice_cmp nat_cmp b c ≡ u → is_le o ≡ true → is_le u ≡ true → is_le (slice_cmp nat_cmp a c) ≡ true
le_by a b c Less Less p q e f = ap is_le (nat_list_cmp_total.trans a b c p q)
le_by a b c Less Equal p q e f = ap (λ (z : List ℕ). is_le (slice_cmp nat_cmp a z)) (sym (exact_bytes b c q)) ∙ ap is_le p
le_by a b c Equal u p q e f = ap (λ (z : List ℕ). is_le (slice_cmp nat_cmp z c)) (exact_bytes a b p) ∙ ap is_le q ∙ f
le_by a b c Greater u p q e f = absurd (cc)
le_by a b c Less Greater p q e f = absurd (cc)

-- a name that isn't above another isn't above what that one isn't above
le_through : (a b c : List ℕ) → name_le a b ≡ true → name_le b c ≡ true → name_le a c ≡ true
le_through a b c e f = le_by a b c (slice_cmp nat_cmp a b) (slice_cmp nat_cmp b c) refl refl e f

not_above : (o : Ordering) → is_lt (ordering_reverse o) ≡ false → is_le o ≡ true
not_above Less e = refl
not_above Equal e = refl
not_above Greater e = absurd (cc)

pub le_if_not : (a b : List ℕ) → is_lt (slice_cmp nat_cmp b a) ≡ false → name_le a b ≡ true
le_if_not a b e = not_above (slice_cmp nat_cmp a b) (ap is_lt (sym (nat_list_cmp_total.antisymm b a)) ∙ e)

pub least_name : (b : List ℕ) → name_le [] b ≡ true
least_name [] = refl
least_name (x ∷ xs) = refl

-- ---- what a later name comes to and leaves
either : (o a b : Bool) → (a ≡ true → b ≡ true) → (o || a) ≡ true → (o || b) ≡ true
either true a b f h = refl
either false a b f h = f h

neither : (o a b : Bool) → (b ≡ true → a ≡ true) → not (o || a) ≡ true → not (o || b) ≡ true
neither true a b f h = absurd (cc)
neither false true b f h = absurd (cc)
neither false false true f h = let k = f refl in absurd (cc)
neither false false false f h = refl

pub come_later : (a b : List ℕ) (x : RangeDeletion) → name_le a b ≡ true → is_come_to a x ≡ true → is_come_to b x ≡ true
come_later a b x le h = either (is_open x.start) (name_le x.start a) (name_le x.start b) (λ k. le_through x.start a b k le) h

pub left_later : (a b : List ℕ) (x : RangeDeletion) → name_le a b ≡ true → is_left a x ≡ true → is_left b x ≡ true
left_later a b x le h = neither (is_open x.finish) (name_le a x.finish) (name_le b x.finish) (λ k. le_through a b x.finish le k) h

-- ---- by first names
get_some : (rs : List RangeDeletion) (i : ℕ) (d : RangeDeletion) → i < length rs → slice_get rs i ≡ Some (get_or rs i d)
get_some [] i d lt = absurd (omega (arith, lt))
get_some (x ∷ xs) zero d lt = refl
get_some (x ∷ xs) (suc i) d lt = get_some xs i d (omega (arith, lt))

come_before : (name s r : List ℕ) → is_lt (slice_cmp nat_cmp r s) ≡ false → (is_open r || name_le r name) ≡ true → (is_open s || name_le s name) ≡ true
come_before name [] r e h = refl
come_before name (x ∷ xs) [] e h = absurd (cc)
come_before name (x ∷ xs) (y ∷ ys) e h = le_through (x ∷ xs) (y ∷ ys) name (le_if_not (x ∷ xs) (y ∷ ys) e) h

pub by_start : (rs : List RangeDeletion) (t : ℕ) (ahead : List ℕ) → AreSeen rs t ahead → IsSortedBy (is_before rs) ahead → AreByStart rs ahead
by_start rs t ahead seen sorted name j k e d le lt h =
    let far = sorted_far (is_before rs) (ranks_by nat_list_cmp_total (start_at rs)) ahead sorted j k e le lt in
    let in_j = (seen (get_or ahead j e) (j, omega (arith, le, lt), same ahead j (omega (arith, le, lt)))).0 in
    let in_k = (seen (get_or ahead k e) (k, lt, same ahead k lt)).0 in
    come_before name (get_or rs (get_or ahead j e) d).start (get_or rs (get_or ahead k e) d).start
    (rw (← ap start_of (get_some rs (get_or ahead k e) d in_k), ← ap start_of (get_some rs (get_or ahead j e) d in_j)) far) h
  where
    same : (xs : List ℕ) (i : ℕ) → i < length xs → get_or xs i (get_or xs i e) ≡ get_or xs i e
    same [] i p = absurd (omega (arith, p))
    same (x ∷ xs) zero p = refl
    same (x ∷ xs) (suc i) p = same xs i (omega (arith, p))

pub rising : (last : Option (List ℕ)) (name : List ℕ) → MatchOption last ⊤ (λ l. is_lt (slice_cmp nat_cmp name l) ≡ false) → name_le (name_of last) name ≡ true
rising None name h = least_name name
rising (Some l) name h = le_if_not l name h
