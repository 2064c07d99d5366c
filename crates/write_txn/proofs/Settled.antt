-- What is known after what was under way at one place is over, and the last one has moved there.
use Rattle.std.proofs.Common.{◌≡◌, ◌≢◌, ◌∙◌, ap, sym, subst, refl, ℕ, ◌-◌, ◌<◌, Bool, true, false, ◌==◌, nat_lt, List, length, Option, Some, None, IsSome, arith}
use Rattle.std.specs.Prelude.{if◌then◌else◌, slice_get, option_map}
use Rattle.std.specs.Ordering.{is_eq}
use Rattle.std.proofs.lemmas.Bool.{eq-eqb, ne_eqb, lt-ltb}
use Rattle.std.proofs.lemmas.Option.{same_Some, slice_get_within}
use Rattle.logical_time.specs.Stamps.{StampValue, TxnValue, txn_cmp}
use Rattle.write_txn.specs.declared.open.Open.{Open}
use Rattle.write_txn.specs.declared.status.Status.{Status}
use Rattle.write_txn.specs.declared.status.Status.TheVariants as in_status
use Rattle.write_txn.specs.Statuses.{StatusList}
use Rattle.write_txn.specs.Ledger.{Holds, IsPlaced, status_in, state_at, txn_of, Becomes}
use Rattle.write_txn.specs.Places.{ledger_of, status_set, status_moved}
use Rattle.write_txn.proofs.Lists.{by_equal, by_below}
use Rattle.write_txn.proofs.Replaced.{one_place, same_state}
use Rattle.write_txn.proofs.Txns.{by_txn, equal_txn}

-- what a status is once it was set, and while it wasn't
set_here : (t u : TxnValue) (s : Status) (before : Option Status) → is_eq (txn_cmp t u) ≡ true → IsSome before → status_set t s u before ≡ Some s
set_here t u s None same some = absurd (cc)
set_here t u s (Some x) same some = rw same refl

set_elsewhere : (t u : TxnValue) (s : Status) (before : Option Status) → is_eq (txn_cmp t u) ≡ false → status_set t s u before ≡ before
set_elsewhere t u s before other = rw other refl

still_some : (t u : TxnValue) (s : Status) (before : Option Status) → IsSome before → IsSome (status_set t s u before)
still_some t u s before some = go (is_eq (txn_cmp t u)) before some
  where
    go : (b : Bool) (o : Option Status) → IsSome o → IsSome (if b then option_map (λ _. s) o else o)
    go true (Some x) h = h
    go true None h = h
    go false o h = h

moved_some : (moved : Option Open) (place : ℕ) (u : TxnValue) (before : Option Status) → IsSome before → IsSome (status_moved moved place u before)
moved_some None place u before some = some
moved_some (Some o) place u before some = still_some (txn_of o) u (in_status.Open place) before some

pub same_place : (j k : ℕ) → ◌≡◌ {A = Option Status} (Some (in_status.Open j)) (Some (in_status.Open k)) → j ≡ k
same_place j k e = cc

none_named : {q : ℕ} → ◌≡◌ {A = Option Status} None (Some (in_status.Open q)) → ⊥
none_named e = cc

applied_named : {q : ℕ} → ◌≡◌ {A = Option Status} (Some in_status.Applied) (Some (in_status.Open q)) → ⊥
applied_named e = cc

decided_named : {commit q : ℕ} {stamp : StampValue} → ◌≡◌ {A = Option Status} (Some (in_status.Decided commit stamp)) (Some (in_status.Open q)) → ⊥
decided_named e = cc

-- the ledger before; the place, its transaction and its new status; the statuses and the list after
module _ (es : StatusList) (os : List Open) (t : TxnValue) (place : ℕ) (s : Status) (fs : StatusList) (zs : List Open)
    (placed : IsPlaced (ledger_of es os)) (status : status_in es t ≡ Some (in_status.Open place)) (not_open : (q : ℕ) → s ≡ in_status.Open q → ⊥)
    (reads : (k : ℕ) → slice_get zs k ≡ (if nat_lt k (length os - 1) then (if k == place then slice_get os (length os - 1) else slice_get os k) else None))
    (statuses : (u : TxnValue) → status_in fs u ≡ status_set t s u (status_moved (slice_get zs place) place u (status_in es u))) where
  -- the transaction has the new status
  own : (u : TxnValue) → t ≡ u → status_in fs u ≡ Some s
  own u same =
      statuses u
      ∙ set_here t u s (status_moved (slice_get zs place) place u (status_in es u)) (equal_txn t u same)
      (moved_some (slice_get zs place) place u (status_in es u) (subst (λ (v : TxnValue). IsSome (status_in es v)) same (subst (λ (o : Option Status). IsSome o) (sym status) refl)))

  within : place < length os
  within = let a = placed.held t place status in slice_get_within os place a.0 a.1

  -- what stands at the place now stood last
  came_last : (o : Open) → slice_get zs place ≡ Some o → slice_get os (length os - 1) ≡ Some o
  came_last o h =
      by_below {P = slice_get os (length os - 1) ≡ Some o} place (length os - 1)
      (λ lt inside. let here : (place == place) ≡ true = eq-eqb place place refl in sym (reads place ∙ rw (inside, here) refl) ∙ h)
      (λ le outside. let none : slice_get zs place ≡ None = reads place ∙ rw outside refl in absurd (cc))

  -- the last one's status names the place
  last_moves : (u : TxnValue) → is_eq (txn_cmp t u) ≡ false → status_in es u ≡ Some (in_status.Open (length os - 1)) → (status_in fs u ≡ Some (in_status.Open place)) × (slice_get zs place ≡ slice_get os (length os - 1))
  last_moves u other h =
      let a = placed.held u (length os - 1) h in
      let apart : place ≢ length os - 1 = λ e. let same = equal_txn t u (one_place (ledger_of es os) placed t u place status (h ∙ ap (λ (k : ℕ). Some (in_status.Open k)) (sym e))) in absurd (cc) in
      let lt : place < length os - 1 = omega (arith, within) in
      let inside : nat_lt place (length os - 1) ≡ true = lt-ltb place (length os - 1) lt in
      let here : (place == place) ≡ true = eq-eqb place place refl in
      let moves : slice_get zs place ≡ slice_get os (length os - 1) = reads place ∙ rw (inside, here) refl in (
        statuses u
            ∙ set_elsewhere t u s (status_moved (slice_get zs place) place u (status_in es u)) other
            ∙ ap (λ (m : Option Open). status_moved m place u (status_in es u)) (moves ∙ a.1)
            ∙ set_here (txn_of a.0) u (in_status.Open place) (status_in es u) (equal_txn (txn_of a.0) u a.2) (subst (λ (o : Option Status). IsSome o) (sym h) refl),
        moves,
      )

  -- each other one's status is as it was
  others_stay : (u : TxnValue) → is_eq (txn_cmp t u) ≡ false → (status_in es u ≡ Some (in_status.Open (length os - 1)) → ⊥) → status_in fs u ≡ status_in es u
  others_stay u other apart =
      statuses u
      ∙ set_elsewhere t u s (status_moved (slice_get zs place) place u (status_in es u)) other
      ∙ go (slice_get zs place) refl
    where
      go : (m : Option Open) → slice_get zs place ≡ m → status_moved m place u (status_in es u) ≡ status_in es u
      go None e = refl
      go (Some o) e =
          by_txn {P = status_set (txn_of o) (in_status.Open place) u (status_in es u) ≡ status_in es u} (txn_of o) u
          (λ same equal. absurd (apart (ap (status_in es) (sym same) ∙ placed.found (length os - 1) o (came_last o e))))
          (λ not_same. set_elsewhere (txn_of o) u (in_status.Open place) (status_in es u) not_same)

  -- what stood at another place stands there still, unless it stood last
  stands : (q : ℕ) → q ≢ place → q < length os - 1 → slice_get zs q ≡ slice_get os q
  stands q apart lt =
      let inside : nat_lt q (length os - 1) ≡ true = lt-ltb q (length os - 1) lt in
      let there : (q == place) ≡ false = ne_eqb q place apart in
      reads q ∙ rw (inside, there) refl

  -- where a transaction stood before, it or its new place is named by its status now
  stands_now : (u : TxnValue) (q : ℕ) → is_eq (txn_cmp t u) ≡ false → status_in es u ≡ Some (in_status.Open q) → (r : ℕ) × (status_in fs u ≡ Some (in_status.Open r)) × (slice_get zs r ≡ slice_get os q)
  stands_now u q other h =
      by_equal {P = (r : ℕ) × (status_in fs u ≡ Some (in_status.Open r)) × (slice_get zs r ≡ slice_get os q)} q (length os - 1)
      (λ last e. let m = last_moves u other (h ∙ ap (λ (k : ℕ). Some (in_status.Open k)) last) in (place, m.0, m.1 ∙ ap (slice_get os) (sym last)))
      (λ before e.
      let a = placed.held u q h in
      let far = slice_get_within os q a.0 a.1 in
      let apart : q ≢ place = λ at. let same = equal_txn t u (one_place (ledger_of es os) placed t u place status (h ∙ ap (λ (k : ℕ). Some (in_status.Open k)) at)) in absurd (cc) in
      (q, others_stay u other (λ named. before (same_place q (length os - 1) (sym h ∙ named))) ∙ h, stands q apart (omega arith)))

  -- a transaction that stands somewhere now stood somewhere before
  stood : (u : TxnValue) (q : ℕ) → is_eq (txn_cmp t u) ≡ false → status_in fs u ≡ Some (in_status.Open q) → (r : ℕ) × (status_in es u ≡ Some (in_status.Open r))
  stood u q other h = go (status_in es u) refl
    where
      go : (o : Option Status) → status_in es u ≡ o → (r : ℕ) × (status_in es u ≡ Some (in_status.Open r))
      go None e = let same = others_stay u other (λ named. none_named (sym e ∙ named)) in absurd (none_named (sym e ∙ sym same ∙ h))
      go (Some (in_status.Open r)) e = (r, e)
      go (Some in_status.Applied) e = let same = others_stay u other (λ named. applied_named (sym e ∙ named)) in absurd (applied_named (sym e ∙ sym same ∙ h))
      go (Some (in_status.Decided commit stamp)) e = let same = others_stay u other (λ named. decided_named (sym e ∙ named)) in absurd (decided_named (sym e ∙ sym same ∙ h))

  -- each that names a place has its own there
  pub settled_placed : IsPlaced (ledger_of fs zs)
  settled_placed = record {
    held = λ u q h.
        by_txn {P = (o : Open) × (slice_get zs q ≡ Some o) × (txn_of o ≡ u)} t u
        (λ same equal. absurd (not_open q (same_Some s (in_status.Open q) (sym (own u same) ∙ h))))
        (λ other.
        let b = stood u q other h in
        let now = stands_now u b.0 other b.1 in
        let a = placed.held u b.0 b.1 in
        (a.0, ap (slice_get zs) (same_place q now.0 (sym h ∙ now.1)) ∙ now.2 ∙ a.1, a.2));
    found = λ q o h.
        by_below {P = status_in fs (txn_of o) ≡ Some (in_status.Open q)} q (length os - 1)
        (λ lt inside.
        by_equal {P = status_in fs (txn_of o) ≡ Some (in_status.Open q)} q place
        (λ at here.
        let last = placed.found (length os - 1) o (came_last o (ap (slice_get zs) (sym at) ∙ h)) in
        by_txn {P = status_in fs (txn_of o) ≡ Some (in_status.Open q)} t (txn_of o)
        (λ same equal. let e = same_place place (length os - 1) (sym status ∙ ap (status_in es) same ∙ last) in absurd (omega arith))
        (λ other. let m = last_moves (txn_of o) other last in m.0 ∙ ap (λ (k : ℕ). Some (in_status.Open k)) (sym at)))
        (λ apart e.
        let before = placed.found q o (sym (stands q apart lt) ∙ h) in
        by_txn {P = status_in fs (txn_of o) ≡ Some (in_status.Open q)} t (txn_of o)
        (λ same equal. absurd (apart (same_place q place (sym before ∙ ap (status_in es) (sym same) ∙ status))))
        (λ other. others_stay (txn_of o) other (λ named. let e = same_place q (length os - 1) (sym before ∙ named) in absurd (omega arith)) ∙ before)))
        (λ past outside. let none : slice_get zs q ≡ None = reads q ∙ rw outside refl in absurd (cc));
  }

  -- the transaction has the new state, and the others have theirs
  pub settled_becomes : Becomes t (state_at os (Some s)) (ledger_of es os) (ledger_of fs zs)
  settled_becomes u =
      by_txn {P = state_at zs (status_in fs u) ≡ (if is_eq (txn_cmp t u) then state_at os (Some s) else state_at os (status_in es u))} t u
      (λ same equal. rw equal (ap (state_at zs) (own u same) ∙ same_state os zs (Some s) (λ q h. absurd (not_open q (same_Some s (in_status.Open q) h)))))
      (λ other. rw other (go other (status_in es u) refl))
    where
      go : is_eq (txn_cmp t u) ≡ false → (o : Option Status) → status_in es u ≡ o → state_at zs (status_in fs u) ≡ state_at os (status_in es u)
      go other None e = ap (state_at zs) (others_stay u other (λ named. none_named (sym e ∙ named)) ∙ e) ∙ ap (state_at os) (sym e)
      go other (Some (in_status.Open q)) e =
          let now = stands_now u q other e in
          ap (state_at zs) now.1 ∙ ap (option_map Holds) now.2 ∙ ap (state_at os) (sym e)
      go other (Some in_status.Applied) e = ap (state_at zs) (others_stay u other (λ named. applied_named (sym e ∙ named)) ∙ e) ∙ ap (state_at os) (sym e)
      go other (Some (in_status.Decided commit stamp)) e =
          ap (state_at zs) (others_stay u other (λ named. decided_named (sym e ∙ named)) ∙ e) ∙ ap (state_at os) (sym e)
