-- What is found in lists that are extended.
use Rattle.std.proofs.Common.{◌≡◌, ◌∙◌, sym, ap, subst, refl, ℕ, Bool, true, false, if◌then◌else◌, List, [], ◌∷◌, ◌++◌, Some, None, map, append-nil, arith}
use Rattle.std.specs.Prelude.{filter, find, is_some}
use Rattle.std.specs.List.{list_any, list_all}
use Rattle.std.proofs.lemmas.Bool.Decides.{nat_tests}
use Rattle.logical_time.specs.Stamps.{TxnValue}
use Rattle.column_family.proofs.Options.{by_cases, both_true}
use Rattle.messages.specs.Words.{is_same_txn}
use Rattle.messages.specs.Shard.{PreparedPart, KeptBallot, Vote, Met}
use Rattle.write_txn.specs.View.{nodes_for, met_for}
use Rattle.write_txn.specs.Moves.{IsExtended}
use Rattle.messages.specs.Known.{AreOfOthers, AreOnce}

-- ## Transactions

pub same_back : (a b : TxnValue) → is_same_txn a b ≡ is_same_txn b a
same_back a b = grind (arith, nat_tests)

pub own_txn : (t : TxnValue) → is_same_txn t t ≡ true
own_txn t = grind (arith, nat_tests)

same_session : (t u : TxnValue) → is_same_txn t u ≡ true → t.session ≡ u.session
same_session t u e = grind (arith, nat_tests)

same_number : (t u : TxnValue) → is_same_txn t u ≡ true → t.number ≡ u.number
same_number t u e = grind (arith, nat_tests)

pub same_txn : (t u : TxnValue) → is_same_txn t u ≡ true → t ≡ u
same_txn t u e =
    ap (λ s. record { session = s; number = t.number }) (same_session t u e)
    ∙ ap (λ n. record { session = u.session; number = n }) (same_number t u e)

-- a transaction that is the one isn't the other
pub of_another : (t u v : TxnValue) → is_same_txn v t ≡ true → is_same_txn t u ≡ false → is_same_txn v u ≡ false
of_another t u v e d = subst (λ w. is_same_txn w u ≡ false) (sym (same_txn v t e)) d

-- ## One more

pub find_last : {T : Type 0} (q : T → Bool) (xs : List T) (x : T) → find q xs ≡ None → q x ≡ true → find q (xs ++ x ∷ []) ≡ Some x
find_last q [] x n e = rw e refl
find_last q (y ∷ ys) x n e = by_cases (q y)
    (λ yes. absurd (let f : Some y ≡ None = rw yes at n in cc))
    (λ no. rw no (find_last q ys x (rw no at n) e))

pub find_same : {T : Type 0} (q : T → Bool) (xs : List T) (x y : T) → find q xs ≡ Some y → find q (xs ++ x ∷ []) ≡ Some y
find_same q [] x y e = absurd (cc)
find_same q (z ∷ zs) x y e = by_cases (q z)
    (λ yes. rw yes (rw yes at e))
    (λ no. rw no (find_same q zs x y (rw no at e)))

filter_append : {T : Type 0} (q : T → Bool) (xs ys : List T) → filter q (xs ++ ys) ≡ filter q xs ++ filter q ys
filter_append q [] ys = refl
filter_append q (x ∷ xs) ys = by_cases (q x) (λ yes. rw yes (ap (λ zs. x ∷ zs) (filter_append q xs ys))) (λ no. rw no (filter_append q xs ys))

map_append : {S T : Type 0} (f : S → T) (xs ys : List S) → map f (xs ++ ys) ≡ map f xs ++ map f ys
map_append f [] ys = refl
map_append f (x ∷ xs) ys = ap (λ zs. f x ∷ zs) (map_append f xs ys)

pub nodes_append : (t : TxnValue) (xs ys : List Vote) → nodes_for (xs ++ ys) t ≡ nodes_for xs t ++ nodes_for ys t
nodes_append t xs ys = ap (map (λ (v : Vote). v.node)) (filter_append (λ v. is_same_txn v.txn t) xs ys) ∙ map_append (λ v. v.node) (filter (λ v. is_same_txn v.txn t) xs) (filter (λ v. is_same_txn v.txn t) ys)

pub nodes_one : (t : TxnValue) (xs : List Vote) (node : ℕ) → nodes_for (xs ++ record { txn = t; node = node } ∷ []) t ≡ nodes_for xs t ++ node ∷ []
nodes_one t xs node = nodes_append t xs (record { txn = t; node = node } ∷ []) ∙ ap (λ (b : Bool). nodes_for xs t ++ map (λ (v : Vote). v.node) (if b then record { txn = t; node = node } ∷ [] else [])) (own_txn t)

pub met_one : (t d : TxnValue) (xs : List Met) → met_for (xs ++ record { waiter = t; dependency = d } ∷ []) t ≡ met_for xs t ++ d ∷ []
met_one t d xs =
    ap (map (λ (m : Met). m.dependency)) (filter_append (λ m. is_same_txn m.waiter t) xs (record { waiter = t; dependency = d } ∷ []))
    ∙ (map_append (λ m. m.dependency) (filter (λ m. is_same_txn m.waiter t) xs) (filter (λ m. is_same_txn m.waiter t) (record { waiter = t; dependency = d } ∷ []))
    ∙ ap (λ (b : Bool). met_for xs t ++ map (λ (m : Met). m.dependency) (if b then record { waiter = t; dependency = d } ∷ [] else [])) (own_txn t))

-- ## Extended

pub stays : {T : Type 0} (q : T → Bool) (xs : List T) → IsExtended q xs xs
stays q xs = record { more = []; is = sym (append-nil xs); all = refl }

pub adds : {T : Type 0} (q : T → Bool) (xs : List T) (x : T) → q x ≡ true → IsExtended q xs (xs ++ x ∷ [])
adds q xs x e = record { more = x ∷ []; is = refl; all = rw e refl }

filtered_so : {T : Type 0} (q : T → Bool) (xs : List T) → list_all q (filter q xs) ≡ true
filtered_so q [] = refl
filtered_so q (x ∷ xs) = by_cases (q x) (λ yes. rw (yes, yes) (filtered_so q xs)) (λ no. rw no (filtered_so q xs))

pub adds_those : {T : Type 0} (q : T → Bool) (xs ys : List T) → IsExtended q xs (xs ++ filter q ys)
adds_those q xs ys = record { more = filter q ys; is = refl; all = filtered_so q ys }

find_none : {T : Type 0} (about q : T → Bool) (xs ys : List T) → ((x : T) → about x ≡ true → q x ≡ false) → list_all about ys ≡ true → find q (xs ++ ys) ≡ find q xs
find_none about q [] [] f e = refl
find_none about q [] (y ∷ ys) f e = let h = both_true (about y) (list_all about ys) e in rw (f y h.0) (find_none about q [] ys f h.1)
find_none about q (x ∷ xs) ys f e = by_cases (q x) (λ yes. rw yes refl) (λ no. rw no (find_none about q xs ys f e))

pub find_extended : {T : Type 0} (about q : T → Bool) (xs ys : List T) → ((x : T) → about x ≡ true → q x ≡ false) → IsExtended about xs ys → find q ys ≡ find q xs
find_extended about q xs ys f i = ap (find q) i.is ∙ find_none about q xs i.more f i.all

filter_none : {T : Type 0} (about q : T → Bool) (xs ys : List T) → ((x : T) → about x ≡ true → q x ≡ false) → list_all about ys ≡ true → filter q (xs ++ ys) ≡ filter q xs
filter_none about q [] [] f e = refl
filter_none about q [] (y ∷ ys) f e = let h = both_true (about y) (list_all about ys) e in rw (f y h.0) (filter_none about q [] ys f h.1)
filter_none about q (x ∷ xs) ys f e = by_cases (q x) (λ yes. rw yes (ap (λ zs. x ∷ zs) (filter_none about q xs ys f e))) (λ no. rw no (filter_none about q xs ys f e))

pub filter_extended : {T : Type 0} (about q : T → Bool) (xs ys : List T) → ((x : T) → about x ≡ true → q x ≡ false) → IsExtended about xs ys → filter q ys ≡ filter q xs
filter_extended about q xs ys f i = ap (filter q) i.is ∙ filter_none about q xs i.more f i.all

any_none : {T : Type 0} (about q : T → Bool) (xs ys : List T) → ((x : T) → about x ≡ true → q x ≡ false) → list_all about ys ≡ true → list_any q (xs ++ ys) ≡ list_any q xs
any_none about q [] [] f e = refl
any_none about q [] (y ∷ ys) f e = let h = both_true (about y) (list_all about ys) e in rw (f y h.0) (any_none about q [] ys f h.1)
any_none about q (x ∷ xs) ys f e = by_cases (q x) (λ yes. rw yes refl) (λ no. rw no (any_none about q xs ys f e))

pub any_extended : {T : Type 0} (about q : T → Bool) (xs ys : List T) → ((x : T) → about x ≡ true → q x ≡ false) → IsExtended about xs ys → list_any q ys ≡ list_any q xs
any_extended about q xs ys f i = ap (list_any q) i.is ∙ any_none about q xs i.more f i.all

pub any_last : {T : Type 0} (q : T → Bool) (xs : List T) (x : T) → q x ≡ true → list_any q (xs ++ x ∷ []) ≡ true
any_last q [] x e = rw e refl
any_last q (y ∷ ys) x e = by_cases (q y) (λ yes. rw yes refl) (λ no. rw no (any_last q ys x e))

-- whether something is found is whether there is one
pub any_found : {T : Type 0} (q : T → Bool) (xs : List T) → list_any q xs ≡ is_some (find q xs)
any_found q [] = refl
any_found q (x ∷ xs) = by_cases (q x) (λ yes. rw yes refl) (λ no. rw no (any_found q xs))

-- ## Parts of one transaction

pub others_if_none : {T : Type 0} (f : T → TxnValue) (xs : List T) (t : TxnValue) → find (λ x. is_same_txn (f x) t) xs ≡ None → AreOfOthers f t xs
others_if_none f [] t e = tt
others_if_none f (x ∷ xs) t e = by_cases (is_same_txn (f x) t)
    (λ yes. absurd (let g : Some x ≡ None = rw yes at e in cc))
    (λ no. (no, others_if_none f xs t (rw no at e)))

pub once_more : {T : Type 0} (f : T → TxnValue) (xs : List T) (x : T) → AreOnce f xs → AreOfOthers f (f x) xs → AreOnce f (xs ++ x ∷ [])
once_more {T} f [] x a o = (tt, tt)
once_more {T} f (y ∷ ys) x a o = (others_more ys (f y) a.0 (same_back (f x) (f y) ∙ o.0), once_more f ys x a.1 o.1)
  where
    others_more : (zs : List T) (t : TxnValue) → AreOfOthers f t zs → is_same_txn (f x) t ≡ false → AreOfOthers f t (zs ++ x ∷ [])
    others_more [] t p n = (n, tt)
    others_more (z ∷ zs) t p n = (p.0, others_more zs t p.1 n)

-- the part that is found for a transaction is of it
pub found_txn : (hs : List PreparedPart) (t : TxnValue) (p : PreparedPart) → find (λ h. is_same_txn h.txn t) hs ≡ Some p → p.txn ≡ t
found_txn [] t p e = absurd (cc)
found_txn (x ∷ xs) t p e = by_cases (is_same_txn x.txn t)
    (λ yes. let f : Some x ≡ Some p = rw yes at e in let same : x ≡ p = cc in sym (ap (λ (z : PreparedPart). z.txn) same) ∙ same_txn x.txn t yes)
    (λ no. found_txn xs t p (rw no at e))

-- and so the ballot
pub found_ballot : (hs : List KeptBallot) (t : TxnValue) (r : KeptBallot) → find (λ h. is_same_txn h.txn t) hs ≡ Some r → r.txn ≡ t
found_ballot [] t r e = absurd (cc)
found_ballot (x ∷ xs) t r e = by_cases (is_same_txn x.txn t)
    (λ yes. let f : Some x ≡ Some r = rw yes at e in let same : x ≡ r = cc in sym (ap (λ (z : KeptBallot). z.txn) same) ∙ same_txn x.txn t yes)
    (λ no. found_ballot xs t r (rw no at e))
