-- After one more decision: which transactions aren't decided, and who asked for them.
use Rattle.std.proofs.Common.{◌≡◌, ◌+◌, ◌≤◌, Bool, true, false, cond, not, List, [], ◌∷◌, ◌++◌, length, Option, Some, None, inl, inr, refl, sym, ap, ◌∙◌, subst, arith}
use Rattle.std.specs.Prelude.{filter, find, is_some, Contains}
use Rattle.std.proofs.lemmas.Bool.{false≢true}
use Rattle.std.proofs.lemmas.List.{length-append}
use Rattle.std.proofs.lemmas.List.Elements.{filter-append}
use Rattle.std.proofs.lemmas.List.Sums.{length-filter, count_by-le-length}
use Rattle.logical_time.specs.Stamps.{TxnValue}
use Rattle.messages.specs.Words.{is_same_txn}
use Rattle.messages.specs.Shard.{Decision, Asker}
use Rattle.world.proofs.lists.Members.{none_in_empty, contains_cases, Contains-push, found, same_txn, same_txn_self}
use Rattle.world.proofs.safety.Facts.{DecidedOnce}
use Rattle.world.proofs.replays.Places.{find_onto, find_past}

-- ## Lists

pub filter_short : {X : Type 0} (p : X → Bool) (xs : List X) → length (filter p xs) ≤ length xs
filter_short p xs = omega (arith, length-filter p xs, count_by-le-length p xs)

pub one_more : {X : Type 0} (p : X → Bool) (xs : List X) (x : X) → length (filter p (xs ++ x ∷ [])) ≤ length (filter p xs) + 1
one_more p xs x =
    let split : length (filter p (xs ++ x ∷ [])) ≡ length (filter p xs) + length (filter p (x ∷ [])) =
    ap length (filter-append p xs (x ∷ [])) ∙ length-append (filter p xs) (filter p (x ∷ [])) in
    let short = filter_short p (x ∷ []) in
    omega arith

-- of what passes one test, some pass a second and others a third
parted : {X : Type 0} (p q r : X → Bool) (xs : List X)
    → ((x : X) → (q x ≡ true → p x ≡ true) × (r x ≡ true → p x ≡ true) × (q x ≡ true → r x ≡ false))
    → length (filter q xs) + length (filter r xs) ≤ length (filter p xs)
parted p q r [] f = omega arith
parted {X} p q r (x ∷ xs) f = let h = f x in go (p x) (q x) (r x) h.0 h.1 h.2 (parted p q r xs f)
  where
    go : (a b c : Bool) → (b ≡ true → a ≡ true) → (c ≡ true → a ≡ true) → (b ≡ true → c ≡ false)
        → length (filter q xs) + length (filter r xs) ≤ length (filter p xs)
        → length (cond b (x ∷ filter q xs) (filter q xs)) + length (cond c (x ∷ filter r xs) (filter r xs)) ≤ length (cond a (x ∷ filter p xs) (filter p xs))
    go true true false f g h le = omega arith
    go true false true f g h le = omega arith
    go true false false f g h le = omega arith
    go true true true f g h le = absurd (false≢true (sym (h refl)))
    go false true c f g h le = absurd (false≢true (f refl))
    go false false true f g h le = absurd (false≢true (g refl))
    go false false false f g h le = le

-- ## Decisions and those that asked for them

-- the transaction isn't among these decisions
abbrev pub undecided : List Decision → TxnValue → Bool
undecided ds t = not (is_some (find (λ d. is_same_txn d.txn t) ds))

once_last : (ds : List Decision) (d e : Decision) → DecidedOnce (ds ++ d ∷ []) → Contains ds e → e.txn ≡ d.txn → ⊥
once_last [] d e once m same = none_in_empty e m
once_last (x ∷ ds) d e once m same = elim (contains_cases x e ds m) [
  | inl q ↦ once.0 d (Contains-push ds d) (sym same ∙ ap (λ (z : Decision). z.txn) q)
  | inr r ↦ once_last ds d e once.1 r same
]

-- what isn't decided after one more decision wasn't before, and is another transaction; and that one wasn't before
newly : (ds : List Decision) (d : Decision) (t : TxnValue) → DecidedOnce (ds ++ d ∷ [])
    → (undecided (ds ++ d ∷ []) t ≡ true → undecided ds t ≡ true) × (is_same_txn t d.txn ≡ true → undecided ds t ≡ true)
    × (undecided (ds ++ d ∷ []) t ≡ true → is_same_txn t d.txn ≡ false)
newly ds d t once = by (find (λ x. is_same_txn x.txn t) ds) refl
  where
    last : (b : Bool) → is_same_txn t d.txn ≡ b → not (is_some (find (λ x. is_same_txn x.txn t) (d ∷ []))) ≡ true → b ≡ false
    last false same left = refl
    last true same left =
        let itself : is_same_txn d.txn t ≡ true = subst (λ u. is_same_txn d.txn u ≡ true) (sym (same_txn t d.txn same)) (same_txn_self d.txn) in
        absurd (false≢true (ap (λ b. not (is_some (cond b (Some d) None))) (sym itself) ∙ left))

    by : (o : Option Decision) → find (λ x. is_same_txn x.txn t) ds ≡ o
        → (undecided (ds ++ d ∷ []) t ≡ true → not (is_some o) ≡ true) × (is_same_txn t d.txn ≡ true → not (is_some o) ≡ true)
        × (undecided (ds ++ d ∷ []) t ≡ true → is_same_txn t d.txn ≡ false)
    by None q = (
      λ left. refl,
      λ same. refl,
      λ left. last (is_same_txn t d.txn) refl (ap (λ z. not (is_some z)) (sym (find_past (λ x. is_same_txn x.txn t) ds (d ∷ []) q)) ∙ left),
    )
    by (Some x) q =
        let f = found (λ x. is_same_txn x.txn t) ds x q in
        let still : undecided (ds ++ d ∷ []) t ≡ false = ap (λ z. not (is_some z)) (find_onto (λ x. is_same_txn x.txn t) ds (d ∷ []) x q) in (
          λ left. absurd (false≢true (sym still ∙ left)),
          λ same. absurd (once_last ds d x once f.0 (same_txn x.txn t f.1 ∙ same_txn t d.txn same)),
          λ left. absurd (false≢true (sym still ∙ left)),
        )

pub asked_for : (ds : List Decision) (d : Decision) (ks : List Asker) → DecidedOnce (ds ++ d ∷ [])
    → length (filter (λ k. undecided (ds ++ d ∷ []) k.dependency) ks) + length (filter (λ k. is_same_txn k.dependency d.txn) ks)
    ≤ length (filter (λ k. undecided ds k.dependency) ks)
asked_for ds d ks once =
    parted (λ k. undecided ds k.dependency) (λ k. undecided (ds ++ d ∷ []) k.dependency) (λ k. is_same_txn k.dependency d.txn) ks
    (λ k. newly ds d k.dependency once)
