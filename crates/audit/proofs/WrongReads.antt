-- Wrong reads that are told one after the other.
use Rattle.std.proofs.Common.{◌≡◌, ◌∙◌, sym, ap, refl, ℕ, suc, ◌+◌, ◌<◌, Bool, true, false, cond, List, [], ◌∷◌, ◌++◌, length, take, get_or, length-take, append-nil, arith}
use Rattle.std.specs.Prelude.{count_by}
use Rattle.std.proofs.lemmas.List.{take_more}
use Rattle.std.proofs.lemmas.List.Sums.{sum_by-cons}
use Rattle.column_family.specs.History.{History}
use Rattle.audit.specs.declared.judging.Answered.{Answered}
use Rattle.audit.specs.declared.judging.Misread.{Misread}
use Rattle.audit.specs.Misreads.{is_misread, misread_at, misreads_from}

-- one more read behind others
snoc : (histories : List History) (place n : ℕ) (rs : List Answered) (r : Answered) → n ≡ place + length rs
    → misreads_from histories place (rs ++ r ∷ []) ≡ misreads_from histories place rs ++ misreads_from histories n (r ∷ [])
snoc histories place n [] r at = let here : n ≡ place = omega (arith, at) in rw here refl
snoc histories place n (q ∷ rs) r at = go (is_misread histories q) (snoc histories (suc place) n rs r (omega (arith, at)))
  where
    go : (c : Bool) → misreads_from histories (suc place) (rs ++ r ∷ []) ≡ misreads_from histories (suc place) rs ++ misreads_from histories n (r ∷ [])
        → cond c (misread_at histories place q ∷ misreads_from histories (suc place) (rs ++ r ∷ [])) (misreads_from histories (suc place) (rs ++ r ∷ []))
        ≡ cond c (misread_at histories place q ∷ misreads_from histories (suc place) rs) (misreads_from histories (suc place) rs) ++ misreads_from histories n (r ∷ [])
    go true e = ap (λ ms. misread_at histories place q ∷ ms) e
    go false e = e

-- the reads so far are told, and one more
pub told_more : (histories : List History) (rs : List Answered) (i : ℕ) (r : Answered) (ms ms' : List Misread) → i < length rs → r ≡ get_or rs i r
    → ms ≡ misreads_from histories 0 (take i rs) → ms' ≡ ms ++ misreads_from histories i (r ∷ []) → ms' ≡ misreads_from histories 0 (take (i + 1) rs)
told_more histories rs i r ms ms' lt at so_far one =
    one
    ∙ ap (λ l. l ++ misreads_from histories i (r ∷ [])) so_far
    ∙ sym (snoc histories 0 i (take i rs) r (omega (arith, length-take i rs)))
    ∙ ap (λ (q : Answered). misreads_from histories 0 (take i rs ++ q ∷ [])) at
    ∙ sym (ap (misreads_from histories 0) (take_more rs i r lt))

-- a wrong read is told, and a right one isn't
pub noted_wrong : (histories : List History) (place : ℕ) (r : Answered) (m : Misread) (ms ms' : List Misread) → is_misread histories r ≡ true → m ≡ misread_at histories place r
    → ms' ≡ ms ++ m ∷ [] → ms' ≡ ms ++ misreads_from histories place (r ∷ [])
noted_wrong histories place r m ms ms' wrong is one = rw (wrong, ← is) one

pub noted_right : (histories : List History) (place : ℕ) (r : Answered) (ms : List Misread) → is_misread histories r ≡ false → ms ≡ ms ++ misreads_from histories place (r ∷ [])
noted_right histories place r ms right = rw right (sym (append-nil ms))

-- as many are told as are wrong
pub counted : (histories : List History) (place : ℕ) (rs : List Answered) → length (misreads_from histories place rs) ≡ count_by (is_misread histories) rs
counted histories place [] = refl
counted histories place (r ∷ rs) =
    go (is_misread histories r) (counted histories (suc place) rs) ∙ sym (sum_by-cons (λ q. cond (is_misread histories q) 1 0) r rs)
  where
    go : (b : Bool) → length (misreads_from histories (suc place) rs) ≡ count_by (is_misread histories) rs
        → length (cond b (misread_at histories place r ∷ misreads_from histories (suc place) rs) (misreads_from histories (suc place) rs))
        ≡ cond b 1 0 + count_by (is_misread histories) rs
    go true e = omega (arith, e)
    go false e = omega (arith, e)
