-- What is committed by a time, entry by entry.
use Rattle.std.proofs.Common.{◌≡◌, ℕ, ◌+◌, ◌<◌, Bool, true, false, nat_le, cond, [], ◌∷◌, ◌++◌, length, take, get_or, ap, ◌∙◌, sym, append-nil}
use Rattle.std.proofs.lemmas.List.Elements.{filter_more}
use Rattle.column_family.specs.declared.batch.Committed.{Committed}
use Rattle.column_family.specs.History.{History, up_to}

up_to_more : (t : ℕ) (h : History) (i : ℕ) (c : Committed) (b : Bool) → i < length h → c ≡ get_or h i c → nat_le c.commit t ≡ b
    → up_to t (take (i + 1) h) ≡ up_to t (take i h) ++ cond b (c ∷ []) []
up_to_more t h i c b lt e f =
    filter_more (λ d. nat_le d.commit t) h i c lt
    ∙ (ap (λ (d : Committed). up_to t (take i h) ++ cond (nat_le d.commit t) (d ∷ []) []) (sym e) ∙ ap (λ a. up_to t (take i h) ++ cond a (c ∷ []) []) f)

pub up_to_kept : (t : ℕ) (h kept : History) (i : ℕ) (c d : Committed) → i < length h → c ≡ get_or h i c → nat_le c.commit t ≡ true
    → kept ≡ up_to t (take i h) → d ≡ c → kept ++ d ∷ [] ≡ up_to t (take (i + 1) h)
up_to_kept t h kept i c d lt e f g s =
    ap (λ k. k ++ d ∷ []) g ∙ (ap (λ (x : Committed). up_to t (take i h) ++ x ∷ []) s ∙ sym (up_to_more t h i c true lt e f))

pub up_to_left : (t : ℕ) (h kept : History) (i : ℕ) (c : Committed) → i < length h → c ≡ get_or h i c → nat_le c.commit t ≡ false
    → kept ≡ up_to t (take i h) → kept ≡ up_to t (take (i + 1) h)
up_to_left t h kept i c lt e f g = g ∙ sym (up_to_more t h i c false lt e f ∙ append-nil (up_to t (take i h)))
