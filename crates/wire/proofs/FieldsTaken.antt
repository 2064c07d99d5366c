-- Fields that are read are spelled by the bytes that they took.
use Rattle.std.proofs.Common.{◌≡◌, ℕ, zero, suc, ◌+◌, ◌^◌, ◌<◌, ◌≤◌, Bool, true, cond, ltb, List, [], ◌∷◌, ◌++◌, length, take, drop, Result, Ok, Err, refl, sym, ap, subst, ◌∙◌, arith}
use Rattle.std.specs.List.{flat_map, list_all}
use Rattle.std.proofs.lemmas.Bool.{ltb-false, lt-ltb, le-leb, and_from}
use Rattle.std.proofs.lemmas.List.{take-append-drop, length-take, length-append}
use Rattle.std.proofs.lemmas.List.Concat.{flat_map-cons}
use Rattle.std.proofs.lemmas.Nat.{be_bytes_4, be_bytes_2}
use Rattle.byteorder.specs.Endian.{big_number, big_bytes}
use Rattle.byteorder.specs.Numbers.{big_from-take, big_from-lt}
use Rattle.logical_time.specs.declared.fault.Fault.{Fault}
use Rattle.logical_time.specs.declared.fault.Fault.TheVariants.{BadCount, Truncated}
use Rattle.wire.specs.Fields.{sized, is_sized, counted, is_counted, longest}
use Rattle.wire.specs.Reading.{◌>>=◌, number_at, cut_at, sized_at, list_at, count_at, counted_at}
use Rattle.wire.proofs.Steps.{IsBytes, IsBytes-take, IsBody, IsBody-drop, bind_ok, guard_ok, ok_is, Takes, Takes-then, AllTake}

-- so many bytes, read as a number, are that number's bytes
abbrev pub IsWide : ℕ → Type 0
IsWide w = (bytes : List ℕ) → length bytes ≡ w → IsBytes bytes → big_bytes w (big_number w bytes) ≡ bytes

pub wide4 : IsWide 4
wide4 bytes len fits = be_bytes_4 bytes (big_number 4 bytes) len fits (omega arith)

pub wide2 : IsWide 2
wide2 bytes len fits = be_bytes_2 bytes (big_number 2 bytes) len fits (omega arith)

pub wide1 : IsWide 1
wide1 [] len fits = absurd (omega arith)
wide1 (b ∷ []) len fits = ap (λ n. n ∷ []) (let lt = fits 0 in omega arith)
wide1 (b ∷ c ∷ bs) len fits = absurd (omega arith)

-- bytes begin with those of the number that they are read as
pub number_front : (w : ℕ) → IsWide w → (bytes : List ℕ) → IsBytes bytes → w ≤ length bytes → bytes ≡ big_bytes w (big_number w bytes) ++ drop w bytes
number_front w wide bytes fits long =
    let same : big_number w bytes ≡ big_number w (take w bytes) = sym (big_from-take 0 w w bytes (omega arith)) in
    let front : big_bytes w (big_number w bytes) ≡ take w bytes = rw same (wide (take w bytes) (omega (arith, length-take w bytes)) (IsBytes-take w bytes fits)) in
    rw front (sym (take-append-drop w bytes))

pub number_takes : (w : ℕ) → IsWide w → (bytes : List ℕ) (n : ℕ × List ℕ) → IsBody bytes → number_at w bytes ≡ Ok n → Takes bytes (big_bytes w n.0) n.1 × (n.0 < 256 ^ w)
number_takes w wide bytes n fits e =
    let g = guard_ok (ltb (length bytes) w) Truncated (big_number w bytes, drop w bytes) n e in
    let taken : Takes bytes (big_bytes w (big_number w bytes)) (drop w bytes) = record { parts = number_front w wide bytes fits.small (ltb-false _ _ g.0); rest_fits = IsBody-drop w bytes fits } in
    subst (λ (y : ℕ × List ℕ). Takes bytes (big_bytes w y.0) y.1 × (y.0 < 256 ^ w)) g.1 (taken, big_from-lt 0 w bytes fits.small)

pub sized_takes : (w : ℕ) → IsWide w → AllTake (sized_at w) (sized w) (is_sized w)
unfolding sized_at
sized_takes w wide bytes x fits e =
    let b = bind_ok (number_at w bytes) (λ n. cut_at n.0 n.1) x e in
    let n = b.0 in
    let t = number_takes w wide bytes n fits b.1 in
    let g = guard_ok (ltb (length n.1) n.0) Truncated (take n.0 n.1, drop n.0 n.1) x b.2 in
    let long : n.0 ≤ length n.1 = ltb-false _ _ g.0 in
    let len : length (take n.0 n.1) ≡ n.0 = omega (arith, length-take n.0 n.1) in
    let second : Takes n.1 (take n.0 n.1) (drop n.0 n.1) = record { parts = sym (take-append-drop n.0 n.1); rest_fits = IsBody-drop n.0 n.1 t.0.rest_fits } in
    let both = Takes-then bytes (big_bytes w n.0) n.1 (take n.0 n.1) (drop n.0 n.1) t.0 second in
    let all : Takes bytes (sized w (take n.0 n.1)) (drop n.0 n.1) = subst (λ (k : ℕ). Takes bytes (big_bytes w k ++ take n.0 n.1) (drop n.0 n.1)) (sym len) both in
    subst (λ (y : List ℕ × List ℕ). Takes bytes (sized w y.0) y.1 × (is_sized w y.0 ≡ true)) g.1 (all, lt-ltb _ _ (rw len t.1))

pub list_take : {A : Type 0} (read_at : List ℕ → Result (A × List ℕ) Fault) (spell : A → List ℕ) (fit : A → Bool) → AllTake read_at spell fit → (n : ℕ) (bytes : List ℕ) (x : List A × List ℕ) → IsBody bytes → list_at read_at n bytes ≡ Ok x
    → Takes bytes (flat_map spell x.0) x.1 × (length x.0 ≡ n) × (list_all fit x.0 ≡ true)
unfolding list_at
list_take {A = A} read_at spell fit one zero bytes x fits e =
    subst (λ (y : List A × List ℕ). Takes bytes (flat_map spell y.0) y.1 × (length y.0 ≡ 0) × (list_all fit y.0 ≡ true)) (ok_is ([], bytes) x e) (record { parts = refl; rest_fits = fits }, refl, refl)
list_take {A = A} read_at spell fit one (suc n) bytes x fits e =
    let a = bind_ok (read_at bytes) (λ first. list_at read_at n first.1 >>= λ others. Ok (first.0 ∷ others.0, others.1)) x e in
    let b = bind_ok (list_at read_at n a.0.1) (λ others. Ok (a.0.0 ∷ others.0, others.1)) x a.2 in
    let first = one bytes a.0 fits a.1 in
    let second = list_take read_at spell fit one n a.0.1 b.0 first.0.rest_fits b.1 in
    let both = Takes-then bytes (spell a.0.0) a.0.1 (flat_map spell b.0.0) b.0.1 first.0 second.0 in
    let made : List A × List ℕ = (a.0.0 ∷ b.0.0, b.0.1) in
    subst (λ (y : List A × List ℕ). Takes bytes (flat_map spell y.0) y.1 × (length y.0 ≡ suc n) × (list_all fit y.0 ≡ true)) (ok_is made x b.2) (rw flat_map-cons both, ap suc second.1, and_from _ _ first.1 second.2)

pub counted_take : {A : Type 0} (read_at : List ℕ → Result (A × List ℕ) Fault) (spell : A → List ℕ) (fit : A → Bool) → AllTake read_at spell fit → AllTake (counted_at read_at) (counted spell) (is_counted fit spell)
unfolding counted_at
counted_take read_at spell fit one bytes x fits e =
    let a = bind_ok (count_at bytes) (λ n. list_at read_at n.0 n.1) x e in
    let b = bind_ok (number_at 4 bytes) (λ n. cond (ltb (length n.1) n.0) (Err BadCount) (Ok n)) a.0 a.1 in
    let g = guard_ok (ltb (length b.0.1) b.0.0) BadCount b.0 a.0 b.2 in
    let t = number_takes 4 wide4 bytes b.0 fits b.1 in
    let u : Takes bytes (big_bytes 4 a.0.0) a.0.1 × (a.0.0 < 256 ^ 4) = subst (λ (p : ℕ × List ℕ). Takes bytes (big_bytes 4 p.0) p.1 × (p.0 < 256 ^ 4)) g.1 t in
    let l = list_take read_at spell fit one a.0.0 a.0.1 x u.0.rest_fits a.2 in
    let both = Takes-then bytes (big_bytes 4 a.0.0) a.0.1 (flat_map spell x.0) x.1 u.0 l.0 in
    let whole : length a.0.1 ≡ length (flat_map spell x.0) + length x.1 = ap length l.0.parts ∙ length-append (flat_map spell x.0) x.1 in
    let short : length (flat_map spell x.0) ≤ longest = let s = u.0.rest_fits.short in omega (arith, s, whole) in
    (subst (λ (n : ℕ). Takes bytes (big_bytes 4 n ++ flat_map spell x.0) x.1) (sym l.1) both, and_from _ _ (lt-ltb _ _ (rw l.1 u.1)) (and_from _ _ l.2 (le-leb _ _ short)))
