-- Notices of a decision, one after the other.
use Rattle.std.specs.Prelude.{◌≡◌, ℕ, List, [], ◌∷◌}
use Rattle.logical_time.specs.Stamps.{StampValue, TxnValue}

-- Where a notice does to a post what the relation says: each of these nodes got one notice, in order, and nothing else
-- was done.
abbrev pub Announced : {S : Type 0} → (S → ℕ → TxnValue → ℕ → StampValue → S → Type 0) → List ℕ → TxnValue → ℕ → StampValue → S → S → Type 0
Announced Noticed [] t commit stamp before after = after ≡ before
Announced {S} Noticed (n ∷ ns) t commit stamp before after =
    (next : S) × Noticed before n t commit stamp next × Announced Noticed ns t commit stamp next after
