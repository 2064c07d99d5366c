-- One read more, that is let go or goes on waiting.
use Rattle.std.proofs.Common.{◌≡◌, ◌∙◌, sym, ap, refl, ℕ, Bool, true, false, if◌then◌else◌, List, [], ◌∷◌, ◌++◌, map, append-nil, ◌<◌, zero, suc, length, get_or, arith}
use Rattle.std.specs.Prelude.{filter}
use Rattle.std.specs.List.{list_all}
use Rattle.logical_time.specs.Stamps.{TxnValue}
use Rattle.column_family.proofs.Options.{by_cases}
use Rattle.slice.specs.declared.read.Read.{Read}
use Rattle.messages.specs.declared.rows_at.AtTime.{AtTime}
use Rattle.messages.specs.declared.envelope.Envelope.{Envelope}
use Rattle.messages.specs.Words.{is_same_txn}
use Rattle.messages.specs.Reads.{is_nothing, is_free, without}
use Rattle.messages.specs.Shard.{WaitingRead}
use Rattle.commit_check.specs.declared.cause.Cause.{Cause}
use Rattle.commit_check.specs.Waiting.{concerns, is_freed, freed, reply}

alone : (t : TxnValue) (us : List TxnValue) → list_all (λ u. is_same_txn u t) us ≡ is_nothing (without t us)
alone t [] = refl
alone t (u ∷ us) = by_cases (is_same_txn u t) (λ yes. rw yes (alone t us)) (λ no. rw no refl)

-- a read that is concerned waits for nothing more where all that it waits for is the transaction
pub freed_alone : (t : TxnValue) (by : Cause) (x : WaitingRead) → concerns by x ≡ true → list_all (λ u. is_same_txn u t) x.left ≡ is_freed t by x
freed_alone t by x is = alone t x.left ∙ ap (λ (b : Bool). is_free (if b then record x { left = without t x.left } else x)) (sym is)

-- the answers with that of one read more
freed_more : (t : TxnValue) (by : Cause) (me n : ℕ) (f : ℕ → Read → AtTime) (xs : List WaitingRead) (x : WaitingRead)
    → map (reply me n f) (freed t by (xs ++ x ∷ [])) ≡ map (reply me n f) (freed t by xs) ++ (if is_freed t by x then reply me n f x ∷ [] else [])
freed_more t by me n f [] x = go (concerns by x)
  where
    go : (b : Bool) → map (reply me n f) (filter is_free ((if b then record x { left = without t x.left } else x) ∷ []))
        ≡ (if is_free (if b then record x { left = without t x.left } else x) then reply me n f x ∷ [] else [])
    go true = by_cases (is_nothing (without t x.left)) (λ yes. rw yes refl) (λ no. rw no refl)
    go false = by_cases (is_nothing x.left) (λ yes. rw yes refl) (λ no. rw no refl)
freed_more t by me n f (y ∷ ys) x = go (is_freed t by y) (freed_more t by me n f ys x)
  where
    z : WaitingRead
    z = if concerns by y then record y { left = without t y.left } else y

    go : (b : Bool) → map (reply me n f) (freed t by (ys ++ x ∷ [])) ≡ map (reply me n f) (freed t by ys) ++ (if is_freed t by x then reply me n f x ∷ [] else [])
        → map (reply me n f) (if b then z ∷ freed t by (ys ++ x ∷ []) else freed t by (ys ++ x ∷ []))
        ≡ map (reply me n f) (if b then z ∷ freed t by ys else freed t by ys) ++ (if is_freed t by x then reply me n f x ∷ [] else [])
    go true e = ap (λ es. reply me n f z ∷ es) e
    go false e = e

-- a read more is let go, and answered
pub answered_one : (t : TxnValue) (by : Cause) (me n : ℕ) (f : ℕ → Read → AtTime) (xs zs : List WaitingRead) (x : WaitingRead) (e : Envelope) (before after : List Envelope)
    → before ≡ map (reply me n f) (freed t by xs) → zs ≡ xs ++ x ∷ [] → is_freed t by x ≡ true → e ≡ reply me n f x → after ≡ before ++ e ∷ []
    → after ≡ map (reply me n f) (freed t by zs)
answered_one t by me n f xs zs x e before after so more is same added =
    added ∙ (ap (λ es. es ++ e ∷ []) so ∙ (ap (λ d. map (reply me n f) (freed t by xs) ++ d ∷ []) same
    ∙ (ap (λ (b : Bool). map (reply me n f) (freed t by xs) ++ (if b then reply me n f x ∷ [] else [])) (sym is)
    ∙ (sym (freed_more t by me n f xs x) ∙ ap (λ ws. map (reply me n f) (freed t by ws)) (sym more)))))

-- a read more goes on waiting
pub answered_none : (t : TxnValue) (by : Cause) (me n : ℕ) (f : ℕ → Read → AtTime) (xs zs : List WaitingRead) (x : WaitingRead) (before after : List Envelope)
    → before ≡ map (reply me n f) (freed t by xs) → zs ≡ xs ++ x ∷ [] → is_freed t by x ≡ false → after ≡ before
    → after ≡ map (reply me n f) (freed t by zs)
answered_none t by me n f xs zs x before after so more is same =
    same ∙ (so ∙ (sym (append-nil (map (reply me n f) (freed t by xs)))
    ∙ (ap (λ (b : Bool). map (reply me n f) (freed t by xs) ++ (if b then reply me n f x ∷ [] else [])) (sym is)
    ∙ (sym (freed_more t by me n f xs x) ∙ ap (λ ws. map (reply me n f) (freed t by ws)) (sym more)))))

-- ## None is let go

-- where none is let go, no read among them waits for nothing more
pub none_freed : (t : TxnValue) (by : Cause) (ws : List WaitingRead) (i : ℕ) (d : WaitingRead) → i < length ws → freed t by ws ≡ [] → is_freed t by (get_or ws i d) ≡ false
none_freed t by [] i d lt e = absurd (omega arith)
none_freed t by (y ∷ ys) i d lt e = at i lt (both (is_freed t by y) e) (λ j less none. none_freed t by ys j d less none)
  where
    z : WaitingRead
    z = if concerns by y then record y { left = without t y.left } else y

    both : (b : Bool) → (if b then z ∷ freed t by ys else freed t by ys) ≡ [] → (b ≡ false) × (freed t by ys ≡ [])
    both true f = absurd (cc)
    both false f = (refl, f)

    at : (j : ℕ) → j < length (y ∷ ys) → (is_freed t by y ≡ false) × (freed t by ys ≡ [])
        → ((k : ℕ) → k < length ys → freed t by ys ≡ [] → is_freed t by (get_or ys k d) ≡ false) → is_freed t by (get_or (y ∷ ys) j d) ≡ false
    at zero lt f rest = f.0
    at (suc j) lt f rest = rest j (omega arith) f.1

-- so nothing is answered
pub unanswered : {P : Type 0} (t : TxnValue) (by : Cause) (ws : List WaitingRead) (i : ℕ) (x : WaitingRead) → i < length ws → x ≡ get_or ws i x → is_freed t by x ≡ true → freed t by ws ≡ [] → P
unanswered t by ws i x lt is free none =
    absurd (let f : is_freed t by x ≡ false = ap (is_freed t by) is ∙ none_freed t by ws i x lt none in cc)
