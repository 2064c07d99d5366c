-- How a run of calls of a disk goes on.
use Rattle.std.proofs.Common.{◌≡◌, ◌∙◌, ◌⊎◌, ⊎_elim, inl, inr, ℕ, List, [], ◌++◌, Option, Some, None, Result, Ok, Err, refl, sym, subst, append-nil, length, take, ◌+◌, arith}
use Rattle.std.specs.Prelude.{IfSome, OnOk, OnErr}
use Rattle.disk.specs.Disk.{Elapses, LeavesOnly, Only, Follows, Cut, IsBeginning}
use Rattle.std.proofs.lemmas.List.{take_all}

module _ {D : Type 0} (moment : D → ℕ) (left_since : D → ℕ → List ℕ → Type 0) where
  -- before the first call
  pub started : (old : D) (P : List ℕ → Type 0) → ((c : List ℕ) → left_since old (moment old) c → P c) → LeavesOnly moment left_since old old P
  started old P here = record { later = omega arith; each = here; before = λ t c le left. inl left }

  -- one call more, after which a crash leaves what has P
  pub goes_on : (old mid new : D) (P may_leave : List ℕ → Type 0) → LeavesOnly moment left_since old mid P → Elapses (moment mid) (moment new) (left_since mid) (left_since new) may_leave
      → ((c : List ℕ) → may_leave c → P c) → LeavesOnly moment left_since old new P
  goes_on old mid new P may_leave so_far time here = record {
    later = omega (arith, so_far.later, time.later);
    each = λ c left. ⊎_elim (so_far.each c) (here c) (time.nothing_else (moment old) c so_far.later left);
    before = λ t c le left. ⊎_elim (so_far.before t c le) (λ now. inr (here c now)) (time.nothing_else t c (omega (arith, le, so_far.later)) left);
  }

  -- what has P has Q
  pub weaker : (old new : D) (P Q : List ℕ → Type 0) → LeavesOnly moment left_since old new P → ((c : List ℕ) → P c → Q c) → LeavesOnly moment left_since old new Q
  weaker old new P Q so_far more = record {
    later = so_far.later;
    each = λ c left. more c (so_far.each c left);
    before = λ t c le left. ⊎_elim (λ was. inl was) (λ p. inr (more c p)) (so_far.before t c le left);
  }

-- ## A write and a sync

pub if_some : {X : Type 0} (o : Option X) (P : X → Type 0) → ((x : X) → o ≡ Some x → P x) → IfSome o P
if_some None P each = tt
if_some (Some x) P each = each x refl

pub from_some : {X : Type 0} (o : Option X) (P : X → Type 0) (x : X) → o ≡ Some x → IfSome o P → P x
from_some o P x is h = (subst (λ (z : Option _). IfSome z P) is h)

pub map_ok : {X E : Type 0} (r : Result X E) (A B : Type 0) → OnOk r A → (A → B) → OnOk r B
map_ok (Ok x) A B a f = f a
map_ok (Err e) A B a f = tt

pub map_err : {X E : Type 0} (r : Result X E) (A B : Type 0) → OnErr r A → (A → B) → OnErr r B
map_err (Ok x) A B a f = tt
map_err (Err e) A B a f = f a

pub either : {X E : Type 0} (r : Result X E) (A B : Type 0) → OnOk r A → OnErr r B → A ⊎ B
either (Ok x) A B a b = inl a
either (Err e) A B a b = inr b

pub itself : (s c : List ℕ) → c ≡ s → IsBeginning s c
itself s c is = ([], is ∙ sym (append-nil s))

module _ {D : Type 0} (moment : D → ℕ) (left_since : D → ℕ → List ℕ → Type 0) (may_leave : D → List ℕ → Type 0) where
  pub appended : (old mid : D) (s : List ℕ) → ((c : List ℕ) → left_since old (moment old) c → may_leave old c) → Only s (may_leave old) → Follows IsBeginning (may_leave old) (may_leave mid)
      → Elapses (moment old) (moment mid) (left_since old) (left_since mid) (may_leave mid) → LeavesOnly moment left_since old mid (IsBeginning s)
  appended old mid s now only follows time =
      goes_on moment left_since old old mid (IsBeginning s) (may_leave mid)
      (started moment left_since old (IsBeginning s) (λ c left. itself s c (only c (now c left)))) time
      (λ c left. let d = follows c left in subst (λ (z : List ℕ). IsBeginning z c) (only d.0 d.1) d.2)

  pub synced : (old mid new : D) (s bytes : List ℕ) → LeavesOnly moment left_since old mid (IsBeginning s) → ((c : List ℕ) → may_leave mid c → IsBeginning s c)
      → Only (s ++ bytes) (may_leave new) ⊎ ((c : List ℕ) → may_leave new c → may_leave mid c)
      → Elapses (moment mid) (moment new) (left_since mid) (left_since new) (may_leave new) → LeavesOnly moment left_since old new (IsBeginning s)
  synced old mid new s bytes so_far was (inl only) time = goes_on moment left_since old mid new (IsBeginning s) (may_leave new) so_far time (λ c left. (bytes, only c left))
  synced old mid new s bytes so_far was (inr fewer) time = goes_on moment left_since old mid new (IsBeginning s) (may_leave new) so_far time (λ c left. was c (fewer c left))

-- ## One run after another

pub then_more : {D : Type 0} (moment : D → ℕ) (left_since : D → ℕ → List ℕ → Type 0) (old mid new : D) (P : List ℕ → Type 0) → LeavesOnly moment left_since old mid P → LeavesOnly moment left_since mid new P → LeavesOnly moment left_since old new P
then_more moment left_since old mid new P a b = record {
  later = omega (arith, a.later, b.later);
  each = λ c left. ⊎_elim (a.each c) (λ p. p) (b.before (moment old) c a.later left);
  before = λ t c le left. ⊎_elim (a.before t c le) (λ p. inr p) (b.before t c (omega (arith, le, a.later)) left);
}

-- ## A cut and a sync

pub uncut : (n : ℕ) (s c : List ℕ) → c ≡ s → Cut n s c
uncut n s c is = (n + length s, omega arith, is ∙ sym (take_all (n + length s) s (omega arith)))

module _ {D : Type 0} (moment : D → ℕ) (left_since : D → ℕ → List ℕ → Type 0) (may_leave : D → List ℕ → Type 0) (n : ℕ) (s : List ℕ) where
  pub cut_off : (old mid : D) → ((c : List ℕ) → left_since old (moment old) c → may_leave old c) → Only s (may_leave old) → Follows (Cut n) (may_leave old) (may_leave mid)
      → Elapses (moment old) (moment mid) (left_since old) (left_since mid) (may_leave mid) → LeavesOnly moment left_since old mid (Cut n s)
  cut_off old mid now only follows time =
      goes_on moment left_since old old mid (Cut n s) (may_leave mid)
      (started moment left_since old (Cut n s) (λ c left. uncut n s c (only c (now c left)))) time
      (λ c left. let d = follows c left in subst (λ (z : List ℕ). Cut n z c) (only d.0 d.1) d.2)

  pub cut_synced : (old mid new : D) → LeavesOnly moment left_since old mid (Cut n s) → ((c : List ℕ) → may_leave mid c → Cut n s c)
      → Only (take n s) (may_leave new) ⊎ ((c : List ℕ) → may_leave new c → may_leave mid c)
      → Elapses (moment mid) (moment new) (left_since mid) (left_since new) (may_leave new) → LeavesOnly moment left_since old new (Cut n s)
  cut_synced old mid new so_far was (inl only) time = goes_on moment left_since old mid new (Cut n s) (may_leave new) so_far time (λ c left. (n, omega arith, only c left))
  cut_synced old mid new so_far was (inr fewer) time = goes_on moment left_since old mid new (Cut n s) (may_leave new) so_far time (λ c left. was c (fewer c left))

  pub cut_was : (old mid : D) → Only s (may_leave old) → Follows (Cut n) (may_leave old) (may_leave mid) → (c : List ℕ) → may_leave mid c → Cut n s c
  cut_was old mid only follows c left = let d = follows c left in subst (λ (z : List ℕ). Cut n z c) (only d.0 d.1) d.2
