-- What is told, one entry more at a time.
use Rattle.std.proofs.Common.{◌≡◌, ◌∙◌, ℕ, zero, suc, ◌+◌, ◌<◌, ◌≤◌, Bool, true, false, cond, List, [], ◌∷◌, ◌++◌, map, length, take, drop, slice_get, Some, None, inl, inr, refl, sym, ap, subst, arith}
use Rattle.std.specs.Prelude.{◌↔◌, flat_map, nat_lt, get_or, Result, Ok, Err, OnOk}
use Rattle.std.proofs.lemmas.Option.{slice_get-get_or}
use Rattle.std.specs.List.{range_with_len}
use Rattle.std.proofs.lemmas.List.{append-nil, append_assoc}
use Rattle.std.proofs.lemmas.Bool.Decides.{nat_tests, eqb_tells}
use Rattle.logical_time.specs.declared.fault.Fault.{Fault}
use Rattle.messages.specs.declared.outcome.Outcome.{Outcome}
use Rattle.messages.specs.Topology.{TopologyValue, node_count, session_node}
use Rattle.actors.specs.Seats.{SeatValue}
use Rattle.threaded.specs.OneRun.{seat_of}
use Rattle.threaded.proofs.Lists.{flat_more, range_more}
use Rattle.workload.specs.declared.script.Script.{Script}
use Rattle.workload.specs.declared.transcript.Entry.{Entry}
use Rattle.workload.specs.Simulation.{entry_by}
use Rattle.running.specs.Asked.{DidAsked}
use Rattle.running.specs.Faults.{TookIn, HaveTaken}
use Rattle.running.specs.Told.{count_before, refusal_by, told_before, left_after, told_by, told_at}

-- what stands at a place, and after it
drop_at : {X : Type 0} (xs : List X) (n : ℕ) (x : X) → slice_get xs n ≡ Some x → drop n xs ≡ x ∷ drop (suc n) xs
drop_at [] n x e = absurd (cc)
drop_at (y ∷ xs) zero x e = let same : y ≡ x = cc in ap (λ z. z ∷ xs) same
drop_at (y ∷ xs) (suc n) x e = drop_at xs n x e

pub drop_here : {X : Type 0} (xs : List X) (n : ℕ) (x : X) → slice_get xs n ≡ Some x → drop n xs ≡ x ∷ drop (n + 1) xs
drop_here xs n x e = let next : suc n ≡ n + 1 = omega arith in drop_at xs n x e ∙ ap (λ k. x ∷ drop k xs) next

pub drop_past : {X : Type 0} (xs : List X) (n : ℕ) → length xs ≤ n → drop n xs ≡ []
drop_past [] zero le = refl
drop_past [] (suc n) le = refl
drop_past (x ∷ xs) zero le = absurd (omega arith)
drop_past (x ∷ xs) (suc n) le = drop_past xs n (omega arith)

-- ## Refusals before an operation

module _ (node number : ℕ) where
  -- one that came before
  before_here : (r : ℕ × Fault) (rs : List (ℕ × Fault)) → nat_lt r.0 number ≡ true → told_before node number (r ∷ rs) ≡ refusal_by node r ∷ told_before node number rs
  before_here r rs yes_ = ap (λ (b : Bool). map (refusal_by node) (take (cond b (suc (count_before number rs)) zero) (r ∷ rs))) yes_

  left_here : (r : ℕ × Fault) (rs : List (ℕ × Fault)) → nat_lt r.0 number ≡ true → left_after number (r ∷ rs) ≡ left_after number rs
  left_here r rs yes_ = ap (λ (b : Bool). drop (cond b (suc (count_before number rs)) zero) (r ∷ rs)) yes_

  -- one that came later
  none_before : (r : ℕ × Fault) (rs : List (ℕ × Fault)) → nat_lt r.0 number ≡ false → told_before node number (r ∷ rs) ≡ []
  none_before r rs later = ap (λ (b : Bool). map (refusal_by node) (take (cond b (suc (count_before number rs)) zero) (r ∷ rs))) later

  all_left : (r : ℕ × Fault) (rs : List (ℕ × Fault)) → nat_lt r.0 number ≡ false → left_after number (r ∷ rs) ≡ r ∷ rs
  all_left r rs later = ap (λ (b : Bool). drop (cond b (suc (count_before number rs)) zero) (r ∷ rs)) later

  -- The refusals up to a place were told, and the others are still to be.
  pub record IsOnWay (rs : List (ℕ × Fault)) (first place : ℕ) (old now : List Entry) : Type 0 where
    pub told : now ++ told_before node number (drop place rs) ≡ old ++ told_before node number (drop first rs)
    pub left : left_after number (drop place rs) ≡ left_after number (drop first rs)

  pub on_way_first : (rs : List (ℕ × Fault)) (first : ℕ) (old : List Entry) → IsOnWay rs first first old old
  on_way_first rs first old = record { told = refl; left = refl }

  pub on_way_more : (rs : List (ℕ × Fault)) (first place : ℕ) (old now next : List Entry) (r : ℕ × Fault) → slice_get rs place ≡ Some r → r.0 < number
      → next ≡ now ++ refusal_by node r ∷ [] → IsOnWay rs first place old now → IsOnWay rs first (place + 1) old next
  on_way_more rs first place old now next r at lt is way =
      let here = drop_here rs place r at in
      let yes_ : nat_lt r.0 number ≡ true = grind (nat_tests, arith) in
      let rest = drop (place + 1) rs in
      record {
        told =
            ap (λ l. l ++ told_before node number rest) is ∙ append_assoc now (refusal_by node r ∷ []) (told_before node number rest)
            ∙ ap (λ l. now ++ l) (sym (before_here r rest yes_)) ∙ ap (λ l. now ++ told_before node number l) (sym here) ∙ way.told;
        left = sym (left_here r rest yes_) ∙ ap (left_after number) (sym here) ∙ way.left;
      }

  pub on_way_done : (rs : List (ℕ × Fault)) (first place : ℕ) (old now : List Entry) (r : ℕ × Fault) → slice_get rs place ≡ Some r → number ≤ r.0
      → IsOnWay rs first place old now
      → (now ≡ old ++ told_before node number (drop first rs)) × (drop place rs ≡ left_after number (drop first rs))
  on_way_done rs first place old now r at le way =
      let here = drop_here rs place r at in
      let later : nat_lt r.0 number ≡ false = grind (nat_tests, arith) in
      let rest = drop (place + 1) rs in (
        sym (append-nil now) ∙ ap (λ l. now ++ l) (sym (none_before r rest later)) ∙ ap (λ l. now ++ told_before node number l) (sym here) ∙ way.told,
        here ∙ sym (all_left r rest later) ∙ ap (left_after number) (sym here) ∙ way.left,
      )

  pub on_way_end : (rs : List (ℕ × Fault)) (first place : ℕ) (old now : List Entry) → length rs ≤ place → IsOnWay rs first place old now
      → (now ≡ old ++ told_before node number (drop first rs)) × (drop (length rs) rs ≡ left_after number (drop first rs))
  on_way_end rs first place old now le way =
      let none = drop_past rs place le in (
        sym (append-nil now) ∙ ap (λ l. now ++ told_before node number l) (sym none) ∙ way.told,
        drop_past rs (length rs) (omega arith) ∙ ap (left_after number) (sym none) ∙ way.left,
      )

-- ## Refusals that are left

module _ (node : ℕ) where
  pub left_more : (rs : List (ℕ × Fault)) (first place : ℕ) (old now next : List Entry) (r : ℕ × Fault) → slice_get rs place ≡ Some r
      → next ≡ now ++ refusal_by node r ∷ [] → now ++ map (refusal_by node) (drop place rs) ≡ old ++ map (refusal_by node) (drop first rs)
      → next ++ map (refusal_by node) (drop (place + 1) rs) ≡ old ++ map (refusal_by node) (drop first rs)
  left_more rs first place old now next r at is way =
      let rest = map (refusal_by node) (drop (place + 1) rs) in
      ap (λ l. l ++ rest) is ∙ append_assoc now (refusal_by node r ∷ []) rest ∙ ap (λ l. now ++ map (refusal_by node) l) (sym (drop_here rs place r at)) ∙ way

  pub left_end : (rs : List (ℕ × Fault)) (first place : ℕ) (old now : List Entry) → length rs ≤ place
      → now ++ map (refusal_by node) (drop place rs) ≡ old ++ map (refusal_by node) (drop first rs) → now ≡ old ++ map (refusal_by node) (drop first rs)
  left_end rs first place old now le way = sym (append-nil now) ∙ ap (λ l. now ++ map (refusal_by node) l) (sym (drop_past rs place le)) ∙ way

  -- ## A session

  pub session_more : (os : List (ℕ × Outcome)) (rs : List (ℕ × Fault)) (place told next : ℕ) (old now after : List Entry) (o : ℕ × Outcome)
      → slice_get os place ≡ Some o → drop next rs ≡ left_after o.0 (drop told rs)
      → after ≡ (now ++ told_before node o.0 (drop told rs)) ++ entry_by node o.0 o.1 ∷ []
      → now ++ told_by node (drop place os) (drop told rs) ≡ old ++ told_by node os rs
      → after ++ told_by node (drop (place + 1) os) (drop next rs) ≡ old ++ told_by node os rs
  session_more os rs place told next old now after o at left is way =
      let rest = told_by node (drop (place + 1) os) (drop next rs) in
      let e = entry_by node o.0 o.1 in
      let b = told_before node o.0 (drop told rs) in
      ap (λ l. l ++ rest) is ∙ append_assoc (now ++ b) (e ∷ []) rest ∙ append_assoc now b (e ∷ rest)
      ∙ ap (λ l. now ++ (b ++ (e ∷ told_by node (drop (place + 1) os) l))) left ∙ ap (λ l. now ++ told_by node l (drop told rs)) (sym (drop_here os place o at)) ∙ way

  pub session_end : (os : List (ℕ × Outcome)) (rs : List (ℕ × Fault)) (place told : ℕ) (old now after : List Entry) → length os ≤ place
      → after ≡ now ++ map (refusal_by node) (drop told rs) → now ++ told_by node (drop place os) (drop told rs) ≡ old ++ told_by node os rs
      → after ≡ old ++ told_by node os rs
  session_end os rs place told old now after le is way = is ∙ ap (λ l. now ++ told_by node l (drop told rs)) (sym (drop_past os place le)) ∙ way

-- ## All sessions

-- what is told of the first so many sessions
abbrev pub first_told : TopologyValue → List SeatValue → ℕ → List Entry
first_told top seats n = flat_map (λ i. told_at (session_node top i) (seat_of seats (session_node top i))) (range_with_len 0 n)

pub one_more_told : (top : TopologyValue) (seats : List SeatValue) (n : ℕ)
    → first_told top seats (n + 1) ≡ first_told top seats n ++ told_at (session_node top n) (seat_of seats (session_node top n))
one_more_told top seats n =
    let f : ℕ → List Entry = λ i. told_at (session_node top i) (seat_of seats (session_node top i)) in
    let one : n + 1 ≡ suc n = omega arith in
    let none : 0 + n ≡ n = omega arith in
    ap (first_told top seats) one ∙ ap (flat_map f) (range_more 0 n) ∙ flat_more f (range_with_len 0 n) (0 + n) ∙ ap (λ k. first_told top seats n ++ f k) none

-- what is told of the next session is added
pub another_told : (top : TopologyValue) (seats : List SeatValue) (n node : ℕ) (old now after : List Entry) → node ≡ session_node top n
    → now ≡ old ++ first_told top seats n → after ≡ now ++ told_at node (seat_of seats node) → after ≡ old ++ first_told top seats (n + 1)
another_told top seats n node old now after is so_far more =
    let part = told_at (session_node top n) (seat_of seats (session_node top n)) in
    more ∙ ap (λ k. now ++ told_at k (seat_of seats k)) is ∙ ap (λ l. l ++ part) so_far ∙ append_assoc old (first_told top seats n) part
    ∙ ap (λ l. old ++ l) (sym (one_more_told top seats n))

-- what follows where it is told
pub then_ok : {T E P Q : Type 0} (r : Result T E) → (P → Q) → OnOk r P → OnOk r Q
then_ok (Ok x) f h = f h
then_ok (Err e) f h = tt

-- the refusal at a place came later
pub on_way_done_at : (node number : ℕ) (rs ls : List (ℕ × Fault)) (first place : ℕ) (old now : List Entry) (d : ℕ × Fault) → ls ≡ rs → place < length ls
    → number ≤ (get_or ls place d).0 → IsOnWay node number rs first place old now
    → (now ≡ old ++ told_before node number (drop first rs)) × (drop place rs ≡ left_after number (drop first rs))
on_way_done_at node number rs ls first place old now d same lt le way =
    on_way_done node number rs first place old now (get_or ls place d)
    (subst (λ l. slice_get l place ≡ Some (get_or ls place d)) same (slice_get-get_or ls place d lt)) le way

-- ## What actors did

module _ (script : Script) (seats : List SeatValue) where
  -- so it is for the first so many nodes
  abbrev pub HaveFirstTaken : ℕ → Type 0
  HaveFirstTaken k = (node : ℕ) → node < k → TookIn script seats node

  pub one_more_taken : (k node : ℕ) → node ≡ k → TookIn script seats node → HaveFirstTaken k → HaveFirstTaken (k + 1)
  one_more_taken k node is took before n below = elim (eqb_tells n k) [
    | inl same ↦ subst (λ m. TookIn script seats m) (is ∙ sym same.1) took
    | inr away ↦ let apart = away.1 in before n (omega (arith, below, apart))
  ]

  pub all_taken : (k : ℕ) → node_count script.topology ≤ k → HaveFirstTaken k → HaveTaken script seats
  all_taken k le first node lt = first node (omega (arith, le, lt))

  -- the actor with a node didn't
  pub one_missing : (k node : ℕ) → node ≡ k → k < node_count script.topology → (TookIn script seats node → ⊥) → HaveTaken script seats → ⊥
  one_missing k node is lt missing all = missing (subst (λ m. TookIn script seats m) (sym is) (all k lt))

  -- where there is no seat, or another
  pub no_seat_took : (node : ℕ) → seat_of seats node ≡ None → TookIn script seats node → ⊥
  no_seat_took node none took = let no : None ≡ Some took.0 = sym none ∙ took.1 in absurd (cc)

  pub seat_took : (node : ℕ) (s : SeatValue) (b : Bool) → seat_of seats node ≡ Some s → (b ≡ true) ↔ DidAsked script node s
      → (b ≡ true) ↔ TookIn script seats node
  seat_took node s b at tells = (
    λ is. (s, at, tells.0 is),
    λ took.
        let both : Some took.0 ≡ Some s = sym took.1 ∙ at in
        let same : took.0 ≡ s = cc in
        tells.1 (subst (λ z. DidAsked script node z) same took.2),
  )
