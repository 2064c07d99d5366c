-- Reading items one after the other, as a loop does.
use Rattle.std.proofs.Common.{◌≡◌, ℕ, suc, ◌-◌, ◌+◌, ◌≤◌, ◌<◌, List, [], ◌∷◌, ◌++◌, Result, Ok, Err, refl, sym, ap, ◌∙◌, append_assoc, arith}
use Rattle.std.proofs.lemmas.List.{append-nil}
use Rattle.logical_time.specs.declared.fault.Fault.{Fault}
use Rattle.wire.specs.declared.error.FrameError.{FrameError}
use Rattle.wire.specs.declared.error.FrameError.TheVariants as errors
use Rattle.wire.specs.Answers.{Fails}
use Rattle.wire.specs.Reading.{◌>>=◌, list_at}

-- what was read before, and what is still read
abbrev pub with_front : {A : Type 0} → List A → Result (List A × List ℕ) Fault → Result (List A × List ℕ) Fault
with_front front read = read >>= λ x. Ok (front ++ x.0, x.1)

regroup : {A : Type 0} (front : List A) (n : A) (read : Result (List A × List ℕ) Fault) → with_front front (read >>= λ x. Ok (n ∷ x.0, x.1)) ≡ with_front (front ++ n ∷ []) read
regroup {A = A} front n (Ok x) = ap (λ (ns : List A). Ok (ns, x.1)) (sym (append_assoc front (n ∷ []) x.0))
regroup front n (Err f) = refl

pub goes_on : {A : Type 0} (f : List ℕ → Result (A × List ℕ) Fault) (front : List A) (count i : ℕ) (bytes : List ℕ) (n : A) (after : List ℕ) (total : Result (List A × List ℕ) Fault) → i < count → f bytes ≡ Ok (n, after)
    → with_front front (list_at f (count - i) bytes) ≡ total → with_front (front ++ n ∷ []) (list_at f (count - (i + 1)) after) ≡ total
unfolding list_at
goes_on f front count i bytes n after total lt h so_far =
    let k : count - i ≡ suc (count - (i + 1)) = omega arith in
    let one : with_front front (list_at f (count - i) bytes) ≡ with_front (front ++ n ∷ []) (list_at f (count - (i + 1)) after) = rw (k, h) (regroup front n (list_at f (count - (i + 1)) after)) in
    sym one ∙ so_far

pub ends : {A : Type 0} (e : FrameError) (f : List ℕ → Result (A × List ℕ) Fault) (front : List A) (count i : ℕ) (bytes : List ℕ) (total : Result (List A × List ℕ) Fault) → i < count → Fails e (f bytes)
    → with_front front (list_at f (count - i) bytes) ≡ total → Fails e total
unfolding list_at
ends errors.Memory f front count i bytes total lt h so_far = tt
ends (errors.Frame d) f front count i bytes total lt h so_far =
    let k : count - i ≡ suc (count - (i + 1)) = omega arith in
    let one : with_front front (list_at f (count - i) bytes) ≡ Err d = rw (k, h) refl in
    sym so_far ∙ one

pub is_done : {A : Type 0} (f : List ℕ → Result (A × List ℕ) Fault) (front : List A) (count i : ℕ) (bytes : List ℕ) (total : Result (List A × List ℕ) Fault) → count ≤ i → with_front front (list_at f (count - i) bytes) ≡ total → total ≡ Ok (front, bytes)
unfolding list_at
is_done {A = A} f front count i bytes total le so_far =
    let k : count - i ≡ 0 = omega arith in
    let one : with_front front (list_at f (count - i) bytes) ≡ Ok (front, bytes) = rw k (ap (λ (ns : List A). Ok (ns, bytes)) (append-nil front)) in
    sym so_far ∙ one
