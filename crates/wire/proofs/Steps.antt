-- Steps of reading that found no fault, and what they took from the front of bytes.
use Rattle.std.proofs.Common.{◌≡◌, ℕ, suc, ◌+◌, ◌<◌, ◌≤◌, Bool, true, false, cond, List, [], ◌∷◌, ◌++◌, length, get_or, take, drop, Result, Ok, Err, refl, sym, ap, ◌∙◌, append_assoc, arith, inl, inr, ◌⊎◌}
use Rattle.std.proofs.lemmas.Bool.{cases_lt}
use Rattle.std.proofs.lemmas.List.{length-take, length-drop, get_or-drop, get_or-take, get_or_past}
use Rattle.logical_time.specs.declared.fault.Fault.{Fault}
use Rattle.wire.specs.Fields.{longest}
use Rattle.wire.specs.Reading.{◌>>=◌, whole_of}

-- numbers that are bytes
abbrev pub IsBytes : List ℕ → Type 0
IsBytes bytes = (i : ℕ) → get_or bytes i 0 < 256

pub IsBytes-drop : (n : ℕ) (bytes : List ℕ) → IsBytes bytes → IsBytes (drop n bytes)
IsBytes-drop n bytes h i = rw get_or-drop (h (n + i))

pub IsBytes-take : (n : ℕ) (bytes : List ℕ) → IsBytes bytes → IsBytes (take n bytes)
IsBytes-take n bytes h i =
    elim (cases_lt i n) [
      | inl lt ↦ rw (get_or-take n bytes i 0 lt) (h i)
      | inr le ↦ rw (get_or_past (take n bytes) i 0 (omega (arith, length-take n bytes))) (omega arith)
    ]

-- bytes of a body
pub record IsBody (bytes : List ℕ) : Type 0 where
  pub small : IsBytes bytes
  pub short : length bytes ≤ longest

pub IsBody-drop : (n : ℕ) (bytes : List ℕ) → IsBody bytes → IsBody (drop n bytes)
IsBody-drop n bytes h = record { small = IsBytes-drop n bytes h.small; short = let s = h.short in omega (arith, s, length-drop n bytes) }

pub IsBody-rest : (b : ℕ) (bytes : List ℕ) → IsBody (b ∷ bytes) → IsBody bytes
IsBody-rest b bytes h = record { small = λ i. h.small (suc i); short = let s = h.short in omega (arith, s) }

-- the value of a step that did not fail
pub bind_ok : {A B : Type 0} (r : Result A Fault) (f : A → Result B Fault) (y : B) → (r >>= f) ≡ Ok y → (x : A) × (r ≡ Ok x) × (f x ≡ Ok y)
bind_ok (Ok x) f y e = (x, refl, e)
bind_ok (Err d) f y e = absurd cc

-- a test that did not fail
pub guard_ok : {A : Type 0} (b : Bool) (d : Fault) (x y : A) → cond b (Err d) (Ok x) ≡ Ok y → (b ≡ false) × (x ≡ y)
guard_ok true d x y e = absurd cc
guard_ok false d x y e = (refl, cc)

abbrev pub done : {A : Type 0} → A → Result A Fault
done x = Ok x

pub ok_is : {A : Type 0} (x y : A) → done x ≡ done y → x ≡ y
ok_is x y e = cc

-- which way a test went
pub chosen : {A : Type 0} (b : Bool) (x y z : A) → cond b x y ≡ z → ((b ≡ true) × (x ≡ z)) ⊎ ((b ≡ false) × (y ≡ z))
chosen true x y z e = inl (refl, e)
chosen false x y z e = inr (refl, e)

pub ended_ok : {A : Type 0} (x : A) (rest : List ℕ) (y : A) → whole_of (x, rest) ≡ Ok y → (x ≡ y) × (rest ≡ [])
ended_ok x [] y e = (cc, refl)
ended_ok x (b ∷ bs) y e = absurd cc

-- bytes are a text and the rest
pub record Takes (bytes text rest : List ℕ) : Type 0 where
  pub parts : bytes ≡ text ++ rest
  pub rest_fits : IsBody rest

pub Takes-then : (a x b y c : List ℕ) → Takes a x b → Takes b y c → Takes a (x ++ y) c
Takes-then a x b y c p q = record { parts = p.parts ∙ ap (λ (t : List ℕ). x ++ t) q.parts ∙ sym (append_assoc x y c); rest_fits = q.rest_fits }

pub Takes-kind : (k : ℕ) (a x b : List ℕ) → Takes a x b → Takes (k ∷ a) (k ∷ x) b
Takes-kind k a x b p = record { parts = ap (λ (t : List ℕ). k ∷ t) p.parts; rest_fits = p.rest_fits }

-- each value that is read is spelled by the bytes that it took, and fits
abbrev pub AllTake : {A : Type 0} → (List ℕ → Result (A × List ℕ) Fault) → (A → List ℕ) → (A → Bool) → Type 0
AllTake {A = A} read_at spell fits = (bytes : List ℕ) (x : A × List ℕ) → IsBody bytes → read_at bytes ≡ Ok x → Takes bytes (spell x.0) x.1 × (fits x.0 ≡ true)

-- the same of values behind their kind
abbrev pub KindTakes : {A : Type 0} → ℕ → (List ℕ → Result (A × List ℕ) Fault) → (A → List ℕ) → (A → Bool) → Type 0
KindTakes {A = A} kind read_at spell fits = (rest : List ℕ) (x : A × List ℕ) → IsBody rest → read_at rest ≡ Ok x → Takes (kind ∷ rest) (spell x.0) x.1 × (fits x.0 ≡ true)

-- each value that fits is read again from its spelling
abbrev pub AllAgain : {A : Type 0} → (List ℕ → Result (A × List ℕ) Fault) → (A → List ℕ) → (A → Bool) → Type 0
AllAgain {A = A} read_at spell fits = (x : A) (rest : List ℕ) → fits x ≡ true → read_at (spell x ++ rest) ≡ Ok (x, rest)
