-- What is left behind by notices that are posted one after the other.
use Rattle.std.proofs.Common.{◌≡◌, ◌∙◌, ap, sym, ℕ, List, [], ◌∷◌, ◌++◌, map}
use Rattle.std.proofs.lemmas.List.{append_assoc, append-nil}
use Rattle.logical_time.specs.Stamps.{StampValue, TxnValue}
use Rattle.txn_state.specs.Announced.{Announced}
use Rattle.messages.specs.declared.envelope.Envelope.{Envelope}
use Rattle.messages.specs.Posting.{commit_to}

-- what no notice changes stays
pub all_keep : {S X : Type 0} (P : S → ℕ → TxnValue → ℕ → StampValue → S → Type 0) (kept : S → X) (step : (x : S) (n : ℕ) (t : TxnValue) (c : ℕ) (s : StampValue) (y : S) → P x n t c s y → kept y ≡ kept x) (ns : List ℕ) (t : TxnValue) (c : ℕ) (s : StampValue) (x y : S) → Announced P ns t c s x y → kept y ≡ kept x
all_keep P kept step [] t c s x y h = ap kept h
all_keep P kept step (n ∷ ns) t c s x y h = all_keep P kept step ns t c s h.0 y h.2 ∙ step x n t c s h.0 h.1

-- where each notice posts its envelope, all of them are posted
pub all_posted : {S : Type 0} (P : S → ℕ → TxnValue → ℕ → StampValue → S → Type 0) (sent : S → List Envelope) (from time : S → ℕ)
    → (step : (x : S) (n : ℕ) (t : TxnValue) (c : ℕ) (s : StampValue) (y : S) → P x n t c s y → (sent y ≡ sent x ++ commit_to (from x) (time x) t c s n ∷ []) × (from y ≡ from x) × (time y ≡ time x))
    → (ns : List ℕ) (t : TxnValue) (c : ℕ) (s : StampValue) (x y : S) → Announced P ns t c s x y
    → sent y ≡ sent x ++ map (commit_to (from x) (time x) t c s) ns
all_posted P sent from time step [] t c s x y h = ap sent h ∙ sym (append-nil (sent x))
all_posted P sent from time step (n ∷ ns) t c s x y h =
    let p = step x n t c s h.0 h.1 in
    let e = commit_to (from x) (time x) t c s n in
    all_posted P sent from time step ns t c s h.0 y h.2
    ∙ ap (λ f. sent h.0 ++ map (commit_to f (time h.0) t c s) ns) p.1
    ∙ ap (λ k. sent h.0 ++ map (commit_to (from x) k t c s) ns) p.2
    ∙ ap (λ es. es ++ map (commit_to (from x) (time x) t c s) ns) p.0
    ∙ append_assoc (sent x) (e ∷ []) (map (commit_to (from x) (time x) t c s) ns)
