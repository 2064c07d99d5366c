-- The late keys of a shard, one answer after the other.
use Rattle.std.proofs.Common.{◌≡◌, ◌∙◌, ℕ, ap, sym, refl, Bool, true, false, List, [], ◌∷◌, ◌++◌, map, cond, ◌==◌}
use Rattle.std.specs.Prelude.{nat_lt, filter}
use Rattle.std.proofs.lemmas.List.{map-append, append_assoc}
use Rattle.std.proofs.lemmas.List.Elements.{filter-append}
use Rattle.messages.specs.declared.rows_now.RowNow.{RowNow}
use Rattle.messages.specs.Session.{HeardNow}
use Rattle.messages.specs.Rounds.{late_keys, rows_from, rows_heard}

-- the keys of the late rows among these
abbrev pub keys_late : ℕ → List RowNow → List (List ℕ)
keys_late time rows = map (λ r. r.key) (filter (λ r. nat_lt r.lvt time) rows)

late_more : (time : ℕ) (h : HeardNow) (hs : List HeardNow) (node : ℕ) → late_keys time (h ∷ hs) node ≡ cond (h.from == node) (keys_late time h.rows) [] ++ late_keys time hs node
late_more time h hs node = go (h.from == node)
  where
    go : (b : Bool) → keys_late time (rows_heard (cond b (h ∷ filter (λ h. h.from == node) hs) (filter (λ h. h.from == node) hs))) ≡ cond b (keys_late time h.rows) [] ++ late_keys time hs node
    go true = ap (λ rs. map (λ (r : RowNow). r.key) rs) (filter-append (λ r. nat_lt r.lvt time) h.rows (rows_from hs node)) ∙ map-append (λ (r : RowNow). r.key) (filter (λ r. nat_lt r.lvt time) h.rows) (filter (λ r. nat_lt r.lvt time) (rows_from hs node))
    go false = refl

-- the answer is the shard's: its late keys come first
pub keys_taken : (time : ℕ) (h : HeardNow) (hs : List HeardNow) (node : ℕ) (keys new total : List (List ℕ)) → (h.from == node) ≡ true → new ≡ keys ++ keys_late time h.rows → keys ++ late_keys time (h ∷ hs) node ≡ total → new ++ late_keys time hs node ≡ total
keys_taken time h hs node keys new total own is so_far =
    ap (λ ks. ks ++ late_keys time hs node) is ∙ append_assoc keys (keys_late time h.rows) (late_keys time hs node)
    ∙ ap (λ ks. keys ++ ks) (sym (late_more time h hs node ∙ ap (λ b. cond b (keys_late time h.rows) [] ++ late_keys time hs node) own)) ∙ so_far

-- the answer is another shard's
pub keys_left : (time : ℕ) (h : HeardNow) (hs : List HeardNow) (node : ℕ) (keys total : List (List ℕ)) → (h.from == node) ≡ false → keys ++ late_keys time (h ∷ hs) node ≡ total → keys ++ late_keys time hs node ≡ total
keys_left time h hs node keys total other so_far =
    ap (λ ks. keys ++ ks) (sym (late_more time h hs node ∙ ap (λ b. cond b (keys_late time h.rows) [] ++ late_keys time hs node) other)) ∙ so_far
