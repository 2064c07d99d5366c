-- The least of a clock and the times of marks, where no two are of one transaction.
use Rattle.std.proofs.Common.{◌≡◌, ◌∙◌, sym, ap, subst, refl, ℕ, ◌≤◌, min, inl, inr, ◌⊎◌, Bool, true, List, [], ◌∷◌, Option, Some, None, arith}
use Rattle.std.specs.Prelude.{filter}
use Rattle.std.proofs.lemmas.Bool.Decides.{nat_tests}
use Rattle.logical_time.specs.Stamps.{TxnValue}
use Rattle.column_family.specs.declared.batch.Row.{Row}
use Rattle.column_family.proofs.Options.{by_cases}
use Rattle.pending.specs.Marks.{MarkList, time_at}
use Rattle.pending.proofs.Times.{same_txn}
use Rattle.messages.specs.Words.{is_same_txn}
use Rattle.messages.specs.Shard.{ShardState, PreparedPart}
use Rattle.messages.specs.Rows.{least_mark, marks_on}
use Rattle.commit_check.specs.Marked.{mark_in, AreMarksOf, IsLatest}
use Rattle.messages.specs.Known.{AreOfOthers, AreOnce}

own_txn : (t : TxnValue) → is_same_txn t t ≡ true
own_txn t = grind (arith, nat_tests)

-- ---- parts that are chosen stand once too
others_kept : (q : PreparedPart → Bool) (t : TxnValue) (ps : List PreparedPart) → AreOfOthers (λ (x : PreparedPart). x.txn) t ps → AreOfOthers (λ (x : PreparedPart). x.txn) t (filter q ps)
others_kept q t [] h = tt
others_kept q t (p ∷ ps) h = by_cases (q p) (λ yes. rw yes (h.0, others_kept q t ps h.1)) (λ no. rw no (others_kept q t ps h.1))

once_kept : (q : PreparedPart → Bool) (ps : List PreparedPart) → AreOnce (λ (x : PreparedPart). x.txn) ps → AreOnce (λ (x : PreparedPart). x.txn) (filter q ps)
once_kept q [] h = tt
once_kept q (p ∷ ps) h = by_cases (q p) (λ yes. rw yes (others_kept q p.txn ps h.0, once_kept q ps h.1)) (λ no. rw no (once_kept q ps h.1))

-- a transaction of none of the parts has no mark
unmarked : (t : TxnValue) (ps : List PreparedPart) → AreOfOthers (λ (x : PreparedPart). x.txn) t ps → mark_in ps t ≡ None
unmarked t [] h = refl
unmarked t (p ∷ ps) h = rw h.0 (unmarked t ps h.1)

-- ---- the least mark
least_bound : (n : ℕ) (ps : List PreparedPart) → least_mark n ps ≤ n
least_bound n [] = omega arith
least_bound n (p ∷ ps) = let h = least_bound n ps in omega (arith, h)

least_low : (n : ℕ) (ps : List PreparedPart) (u : TxnValue) (m : ℕ) → mark_in ps u ≡ Some m → least_mark n ps ≤ m
least_low n [] u m e = absurd (cc)
least_low n (p ∷ ps) u m e = by_cases (is_same_txn p.txn u)
    (λ yes.
    let f : Some p.time ≡ Some m = rw yes at e in
    let is : p.time ≡ m = cc in
    omega (arith, is))
    (λ no. (let h = least_low n ps u m (rw no at e) in omega (arith, h)))

min_either : (a x : ℕ) → (min a x ≡ a) ⊎ (min a x ≡ x)
min_either a x = grind arith

-- the clock is the least, or the mark of a transaction is
abbrev IsReached : ℕ → List PreparedPart → ℕ → Type 0
IsReached n ps t = (t ≡ n) ⊎ ((u : TxnValue) × (mark_in ps u ≡ Some t))

marked_first : (p : PreparedPart) (ps : List PreparedPart) → mark_in (p ∷ ps) p.txn ≡ Some p.time
marked_first p ps = rw (own_txn p.txn) refl

marked_rest : (p : PreparedPart) (ps : List PreparedPart) (u : TxnValue) (m : ℕ) → AreOfOthers (λ (x : PreparedPart). x.txn) p.txn ps → mark_in ps u ≡ Some m → mark_in (p ∷ ps) u ≡ Some m
marked_rest p ps u m others e = by_cases (is_same_txn p.txn u)
    (λ same. absurd (let none = unmarked u ps (subst (λ (t : TxnValue). AreOfOthers (λ (x : PreparedPart). x.txn) t ps) (same_txn p.txn u same) others) in cc))
    (λ other. rw other e)

least_reached : (n : ℕ) (ps : List PreparedPart) → AreOnce (λ (x : PreparedPart). x.txn) ps → IsReached n ps (least_mark n ps)
least_reached n [] once = inl refl
least_reached n (p ∷ ps) once = go (min_either p.time (least_mark n ps)) (least_reached n ps once.1)
  where
    go : (min p.time (least_mark n ps) ≡ p.time) ⊎ (min p.time (least_mark n ps) ≡ least_mark n ps) → IsReached n ps (least_mark n ps) → IsReached n (p ∷ ps) (min p.time (least_mark n ps))
    go (inl e) h = inr (p.txn, marked_first p ps ∙ ap Some (sym e))
    go (inr e) (inl h) = inl (e ∙ h)
    go (inr e) (inr h) = inr (h.0, marked_rest p ps h.0 (min p.time (least_mark n ps)) once.0 (h.1 ∙ ap Some (sym e)))

one_latest : (times : TxnValue → Option ℕ) (n t s : ℕ) → IsLatest times n t → IsLatest times n s → t ≡ s
one_latest times n t s i j = go i.reached j.reached
  where
    go : (t ≡ n) ⊎ ((u : TxnValue) × (times u ≡ Some t)) → (s ≡ n) ⊎ ((u : TxnValue) × (times u ≡ Some s)) → t ≡ s
    go (inl e) (inl g) = e ∙ sym g
    go (inl e) (inr g) = let b = i.least g.0 s g.1 in let c = j.bound in omega (arith, b, c, e)
    go (inr e) (inl g) = let b = j.least e.0 t e.1 in let c = i.bound in omega (arith, b, c, g)
    go (inr e) (inr g) = let b = j.least e.0 t e.1 in let c = i.least g.0 s g.1 in omega (arith, b, c)

-- by the marks of a shard, the latest time is the machine's
pub latest_is : (ms : MarkList) (a : ShardState) (r : Row) (n t : ℕ) → AreMarksOf ms a → AreOnce (λ (x : PreparedPart). x.txn) a.prepared → IsLatest (time_at ms r) n t → t ≡ least_mark n (marks_on r a)
latest_is ms a r n t marked once i =
    one_latest (time_at ms r) n t (least_mark n ps) i
    (record {
      bound = least_bound n ps;
      least = λ u m e. least_low n ps u m (sym (marked r u) ∙ e);
      reached = reach (least_reached n ps (once_kept _ a.prepared once));
    })
  where
    ps : List PreparedPart
    ps = marks_on r a

    reach : IsReached n ps (least_mark n ps) → (least_mark n ps ≡ n) ⊎ ((u : TxnValue) × (time_at ms r u ≡ Some (least_mark n ps)))
    reach (inl e) = inl e
    reach (inr h) = inr (h.0, marked r h.0 ∙ h.1)
