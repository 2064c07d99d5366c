-- What the events of a journal sent, event by event, as the journal grows.
use Rattle.std.proofs.Common.{◌≡◌, ◌∙◌, ℕ, zero, suc, ◌+◌, ◌<◌, ◌≤◌, ◌^◌, Bool, true, false, List, [], ◌∷◌, ◌++◌, length, take, Some, None, refl, sym, ap, subst, arith, inl, inr, eqb-true, eq-eqb}
use Rattle.std.specs.Prelude.{◌&&◌, ◌==◌, ◌≢◌, min, slice_get, ◌⊎◌}
use Rattle.std.specs.List.{list_all}
use Rattle.std.specs.Option.{unwrap_or}
use Rattle.std.proofs.lemmas.List.{length-append, take_all, take-append-le}
use Rattle.std.proofs.lemmas.Option.{slice_get_past, slice_get_within}
use Rattle.std.proofs.lemmas.Bool.Decides.{leb_tells, eqb_tells}
use Rattle.messages.specs.declared.envelope.Envelope.{Envelope}
use Rattle.messages.specs.declared.outcome.Outcome.{Outcome}
use Rattle.messages.specs.declared.event.ActorEvent.{ActorEvent}
use Rattle.messages.specs.Topology.{TopologyValue}
use Rattle.actors.specs.CameFrom.{CameFrom}
use Rattle.actors.specs.Shown.{Shown, mark_after, sent_after, CameAlong, clock_from, clock_after, AreTimed, IsShown}

-- ## Before the first event

none_marked : (k : ℕ) → mark_after [] k ≡ 0
none_marked zero = refl
none_marked (suc k) = refl

pub shown_empty : {M : Type 0} (came_from : CameFrom M) (top : TopologyValue) (node : ℕ) (machine : M)
    → came_from top node [] [] [] machine → IsShown came_from top node [] [] true
shown_empty {M = M} came_from top node machine came = record {
  shown = record { journal = []; sent = []; marks = [] };
  its = refl;
  along = record {
    marked = refl;
    all = refl;
    within = λ k. subst (λ m. m ≤ 0) (sym (none_marked k)) (omega arith);
    came = at;
  };
  sends = refl;
  told = λ is k i e low lt at_i. absurd (let none = none_marked (suc k) in omega (arith, lt, none));
  exact = λ timed. refl;
}
  where
    at : (k : ℕ) → k ≤ 0 → (machine : M) × (outcomes : List (ℕ × Outcome)) × came_from top node (take k []) (sent_after (record { journal = []; sent = []; marks = [] }) k) outcomes machine
    at zero le = (machine, [], came)
    at (suc k) le = absurd (omega arith)

-- ## One event more

first_get : {X : Type 0} (xs ys : List X) (k : ℕ) → k < length xs → slice_get (xs ++ ys) k ≡ slice_get xs k
first_get [] ys k lt = absurd (omega arith)
first_get (x ∷ xs) ys zero lt = refl
first_get (x ∷ xs) ys (suc k) lt = first_get xs ys k (omega arith)

last_get : {X : Type 0} (xs : List X) (y : X) → slice_get (xs ++ y ∷ []) (length xs) ≡ Some y
last_get [] y = refl
last_get (x ∷ xs) y = last_get xs y

past_get : {X : Type 0} (xs : List X) (y : X) (k : ℕ) → length xs < k → slice_get (xs ++ y ∷ []) k ≡ None
past_get [] y zero lt = absurd (omega arith)
past_get [] y (suc k) lt = refl
past_get (x ∷ xs) y zero lt = absurd (omega arith)
past_get (x ∷ xs) y (suc k) lt = past_get xs y k (omega arith)

zero_more : (j : ℕ) → 0 + j ≡ j
zero_more j = omega arith

one_past : (n j : ℕ) → suc n + j ≡ suc (n + j)
one_past n j = omega arith

-- what stands in the second list stands there in both
second_get : {X : Type 0} (xs ys : List X) (j : ℕ) → slice_get (xs ++ ys) (length xs + j) ≡ slice_get ys j
second_get [] ys j = ap (slice_get ys) (zero_more j)
second_get (x ∷ xs) ys j = ap (slice_get (x ∷ (xs ++ ys))) (one_past (length xs) j) ∙ second_get xs ys j

-- what stands in both from the end of the first list on stands in the second
rest_get : {X : Type 0} (xs ys : List X) (i : ℕ) (e : X) → length xs ≤ i → slice_get (xs ++ ys) i ≡ Some e → (j : ℕ) × (slice_get ys j ≡ Some e)
rest_get [] ys i e le at = (i, at)
rest_get (x ∷ xs) ys zero e le at = absurd (omega arith)
rest_get (x ∷ xs) ys (suc i) e le at = rest_get xs ys i e (omega arith) at

both_true : (a b : Bool) → (a && b) ≡ true → (a ≡ true) × (b ≡ true)
both_true true b is = (refl, is)
both_true false b is = absurd (cc)

true_both : (a b : Bool) → a ≡ true → b ≡ true → (a && b) ≡ true
true_both true b is also = also
true_both false b is also = absurd (cc)

each_passes : (p : Envelope → Bool) (es : List Envelope) (j : ℕ) (e : Envelope) → list_all p es ≡ true → slice_get es j ≡ Some e → p e ≡ true
each_passes p [] j e all at = absurd (cc)
each_passes p (x ∷ es) zero e all at =
    let same : x ≡ e = cc in
    subst (λ z. p z ≡ true) same (both_true (p x) (list_all p es) all).0
each_passes p (x ∷ es) (suc j) e all at = each_passes p es j e (both_true (p x) (list_all p es) all).1 at

all_pass : (p : Envelope → Bool) (es : List Envelope) → ((j : ℕ) (e : Envelope) → slice_get es j ≡ Some e → p e ≡ true) → list_all p es ≡ true
all_pass p [] each = refl
all_pass p (x ∷ es) each = subst (λ b. (b && list_all p es) ≡ true) (sym (each 0 x refl)) (all_pass p es (λ j e at. each (suc j) e at))

module _ {M : Type 0} (came_from : CameFrom M) (top : TopologyValue) (node : ℕ) (s : Shown) (x : ActorEvent) (fresh : List Envelope) (along : CameAlong came_from top node s) where
  abbrev more : Shown
  more = record { journal = s.journal ++ x ∷ []; sent = s.sent ++ fresh; marks = s.marks ++ length (s.sent ++ fresh) ∷ [] }

  one_longer : length (s.journal ++ x ∷ []) ≡ suc (length s.journal)
  one_longer = let l = length-append s.journal (x ∷ []) in omega (arith, l)

  mark_old : (k : ℕ) → k ≤ length s.journal → mark_after more.marks k ≡ mark_after s.marks k
  mark_old zero le = refl
  mark_old (suc k) le = let m = along.marked in ap (λ o. unwrap_or o 0) (first_get s.marks (length (s.sent ++ fresh) ∷ []) k (omega (arith, le, m)))

  mark_new : mark_after more.marks (suc (length s.journal)) ≡ length (s.sent ++ fresh)
  mark_new = ap (λ n. unwrap_or (slice_get more.marks n) 0) (sym along.marked) ∙ ap (λ o. unwrap_or o 0) (last_get s.marks (length (s.sent ++ fresh)))

  mark_past : (k : ℕ) → length s.journal < k → mark_after more.marks (suc k) ≡ 0
  mark_past k lt = let m = along.marked in ap (λ o. unwrap_or o 0) (past_get s.marks (length (s.sent ++ fresh)) k (omega (arith, lt, m)))

  sent_longer : length s.sent ≤ length (s.sent ++ fresh)
  sent_longer = let l = length-append s.sent fresh in omega (arith, l)

  -- each moment is one of before, the new one, or none
  when : (k : ℕ) → (k ≤ length s.journal) ⊎ ((k ≡ suc (length s.journal)) ⊎ ((j : ℕ) × (k ≡ suc j) × (length s.journal < j)))
  when zero = inl (omega arith)
  when (suc k) = elim (leb_tells (suc k) (length s.journal)) [
    | inl early ↦ inl early.1
    | inr late ↦ elim (eqb_tells k (length s.journal)) [ inl here ↦ inr (inl (ap suc here.1)) | inr past ↦ inr (inr (k, refl, above k late.1 past.1)) ]
  ]
    where
      above : (k : ℕ) → length s.journal < suc k → k ≢ length s.journal → length s.journal < k
      above k lt apart = omega (arith, lt, apart)

  within_more : (k : ℕ) → mark_after more.marks k ≤ length more.sent
  within_more k = elim (when k) [
    | inl early ↦ let w = along.within k in let m = mark_old k early in let l = sent_longer in omega (arith, w, m, l)
    | inr (inl new) ↦ let m = ap (mark_after more.marks) new ∙ mark_new in omega (arith, m)
    | inr (inr past) ↦ let m = ap (mark_after more.marks) past.1 ∙ mark_past past.0 past.2 in omega (arith, m)
  ]

  sent_old : (k : ℕ) → k ≤ length s.journal → sent_after more k ≡ sent_after s k
  sent_old k le = ap (λ m. take m (s.sent ++ fresh)) (mark_old k le) ∙ take-append-le (mark_after s.marks k) s.sent fresh (along.within k)

  sent_new : sent_after more (suc (length s.journal)) ≡ s.sent ++ fresh
  sent_new = ap (λ m. take m (s.sent ++ fresh)) mark_new ∙ take_all (length (s.sent ++ fresh)) (s.sent ++ fresh) (omega arith)

  module _ (machine : M) (outcomes : List (ℕ × Outcome)) (came : came_from top node (s.journal ++ x ∷ []) (s.sent ++ fresh) outcomes machine) where
    came_more : (k : ℕ) → k ≤ length (s.journal ++ x ∷ [])
        → (machine : M) × (outcomes : List (ℕ × Outcome)) × came_from top node (take k (s.journal ++ x ∷ [])) (sent_after more k) outcomes machine
    came_more k le = elim (when k) [
      | inl early ↦
          let old = along.came k early in (
            old.0,
            old.1,
            subst (λ es. came_from top node (take k (s.journal ++ x ∷ [])) es old.1 old.0) (sym (sent_old k early))
                (subst (λ xs. came_from top node xs (sent_after s k) old.1 old.0) (sym (take-append-le k s.journal (x ∷ []) early)) old.2),
          )
      | inr (inl new) ↦ (
        machine,
        outcomes,
        subst (λ n. came_from top node (take n (s.journal ++ x ∷ [])) (sent_after more n) outcomes machine) (sym new)
            (subst (λ es. came_from top node (take (suc (length s.journal)) (s.journal ++ x ∷ [])) es outcomes machine) (sym sent_new)
            (subst (λ xs. came_from top node xs (s.sent ++ fresh) outcomes machine)
            (sym (take_all (suc (length s.journal)) (s.journal ++ x ∷ []) (let l = one_longer in omega (arith, l)))) came)),
      )
      | inr (inr past) ↦ absurd (let l = one_longer in let p = past.1 in let q = past.2 in omega (arith, le, l, p, q))
    ]

    along_more : CameAlong came_from top node more
    along_more = record {
      marked = let l = length-append s.marks (length (s.sent ++ fresh) ∷ []) in let j = one_longer in let m = along.marked in omega (arith, l, j, m);
      all = ap (mark_after more.marks) one_longer ∙ mark_new;
      within = within_more;
      came = came_more;
    }

  clock_old : (k : ℕ) → k < length s.journal → clock_after more.journal (suc k) ≡ clock_after s.journal (suc k)
  clock_old k lt = ap (clock_from 0) (take-append-le (suc k) s.journal (x ∷ []) (omega (arith, lt)))

  clock_new : clock_after more.journal (suc (length s.journal)) ≡ clock_from 0 (s.journal ++ x ∷ [])
  clock_new = ap (clock_from 0) (take_all (suc (length s.journal)) (s.journal ++ x ∷ []) (let l = one_longer in omega (arith, l)))

  mark_end : mark_after s.marks (length s.journal) ≡ length s.sent
  mark_end = along.all

  -- each carries its clock where each of before does, and each of the new ones
  timed_more : AreTimed s → ((j : ℕ) (e : Envelope) → slice_get fresh j ≡ Some e → e.time ≡ clock_from 0 (s.journal ++ x ∷ [])) → AreTimed more
  timed_more old new k i e low lt at = elim (when (suc k)) [
    | inl early ↦
        let w = along.within (suc k) in
        let m = mark_old k (omega (arith, early)) in
        let n = mark_old (suc k) early in
        old k i e (omega (arith, low, m)) (omega (arith, lt, n)) (sym (first_get s.sent fresh i (omega (arith, lt, n, w))) ∙ at)
        ∙ sym (clock_old k (omega (arith, early)))
    | inr (inl here) ↦
        let is : k ≡ length s.journal = omega (arith, here) in
        let m = mark_old k (omega (arith, is)) ∙ ap (mark_after s.marks) is ∙ mark_end in
        let r = rest_get s.sent fresh i e (omega (arith, low, m)) at in
        new r.0 e r.1 ∙ sym clock_new ∙ ap (clock_after more.journal) (sym here)
    | inr (inr past) ↦ absurd (let m = ap (mark_after more.marks) past.1 ∙ mark_past past.0 past.2 in omega (arith, lt, m))
  ]

  timed_before : AreTimed more → AreTimed s
  timed_before new k i e low lt at = elim (when (suc k)) [
    | inl early ↦
        let w = along.within (suc k) in
        let m = mark_old k (omega (arith, early)) in
        let n = mark_old (suc k) early in
        new k i e (omega (arith, low, m)) (omega (arith, lt, n)) (first_get s.sent fresh i (omega (arith, lt, w)) ∙ at) ∙ clock_old k (omega (arith, early))
    | inr (inl here) ↦ absurd (let m = none_after k (omega (arith, here)) in omega (arith, lt, m))
    | inr (inr past) ↦ absurd (let m = none_after k (let p = past.1 in let q = past.2 in omega (arith, p, q)) in omega (arith, lt, m))
  ]
    where
      none_after : (k : ℕ) → length s.journal ≤ k → mark_after s.marks (suc k) ≡ 0
      none_after k le = let m = along.marked in ap (λ o. unwrap_or o 0) (slice_get_past s.marks k (omega (arith, le, m)))

  timed_new : AreTimed more → (j : ℕ) (e : Envelope) → slice_get fresh j ≡ Some e → e.time ≡ clock_from 0 (s.journal ++ x ∷ [])
  timed_new all j e at =
      let m = mark_old (length s.journal) (omega arith) ∙ mark_end in
      let n = mark_new in
      let l = length-append s.sent fresh in
      let lt = slice_get_within fresh j e at in
      all (length s.journal) (length s.sent + j) e (omega (arith, m)) (omega (arith, n, l, lt)) (second_get s.sent fresh j ∙ at) ∙ clock_new

-- ## What a seat keeps of it

first_of : (es : List Envelope) (j : ℕ) (e : Envelope) → slice_get es j ≡ Some e → (f : Envelope) × (slice_get es 0 ≡ Some f)
first_of [] j e at = absurd (cc)
first_of (x ∷ es) j e at = (x, refl)

pub shown_more : {M : Type 0} (came_from : CameFrom M) (top : TopologyValue) (node : ℕ) (journal next : List ActorEvent) (x : ActorEvent) (fresh : List Envelope)
    (sent : List Envelope) (timed now : Bool) (clock : ℕ) (machine : M) (outcomes : List (ℕ × Outcome))
    → IsShown came_from top node journal sent timed → next ≡ journal ++ x ∷ [] → came_from top node next (sent ++ fresh) outcomes machine
    → clock ≡ min (clock_from 0 next) (2 ^ 48)
    → now ≡ (timed && list_all (λ (e : Envelope). e.time == clock) fresh) → ((e : Envelope) → slice_get fresh 0 ≡ Some e → e.time < 2 ^ 48)
    → IsShown came_from top node next (sent ++ fresh) now
shown_more {M = M} came_from top node journal next x fresh sent timed now clock machine outcomes was next_is came clock_is now_is below =
    record {
      shown = more came_from top node s x fresh was.along;
      its = sym its;
      along = along_more came_from top node s x fresh was.along machine outcomes
          (subst (λ es. came_from top node (s.journal ++ x ∷ []) es outcomes machine) (sym sends)
          (subst (λ xs. came_from top node xs (sent ++ fresh) outcomes machine) its came));
      sends = sends;
      told = λ is.
          let both = both_true timed _ (sym now_is ∙ is) in
          timed_more came_from top node s x fresh was.along (was.told both.0) (λ j e at.
          let f = first_of fresh j e at in
          let at_clock : e.time ≡ clock = eqb-true e.time clock (each_passes (λ (z : Envelope). z.time == clock) fresh j e both.1 at) in
          let first : f.0.time ≡ clock = eqb-true f.0.time clock (each_passes (λ (z : Envelope). z.time == clock) fresh 0 f.0 both.1 f.1) in
          let low = below f.0 f.1 in
          in_time e.time at_clock (omega (arith, first, low)) ∙ ap (clock_from 0) its);
      exact = λ all.
          now_is ∙ true_both timed _ (was.exact (timed_before came_from top node s x fresh was.along all))
          (all_pass (λ (z : Envelope). z.time == clock) fresh (λ j e at.
          let f = first_of fresh j e at in
          let late = timed_new came_from top node s x fresh was.along all in
          let low = below f.0 f.1 in
          let own : e.time ≡ clock_from 0 next = late j e at ∙ ap (clock_from 0) (sym its) in
          let first : f.0.time ≡ clock_from 0 next = late 0 f.0 f.1 ∙ ap (clock_from 0) (sym its) in
          eq-eqb e.time clock (omega (arith, own, first, low, clock_is))));
    }
  where
    s : Shown
    s = was.shown

    its : next ≡ s.journal ++ x ∷ []
    its = next_is ∙ ap (λ l. l ++ x ∷ []) (sym was.its)

    sends : s.sent ++ fresh ≡ sent ++ fresh
    sends = ap (λ l. l ++ fresh) was.sends

    in_time : (time : ℕ) → time ≡ clock → clock < 2 ^ 48 → time ≡ clock_from 0 next
    in_time time is low = omega (arith, is, low, clock_is)
