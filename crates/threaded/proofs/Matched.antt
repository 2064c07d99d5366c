-- The receipts of a journal are counted, and compared with what was sent.
use Rattle.std.proofs.Common.{append-nil, ◌≡◌, ◌∙◌, ℕ, zero, suc, ◌+◌, ◌<◌, ◌≤◌, Bool, true, false, cond, List, [], ◌∷◌, ◌++◌, length, take, drop, slice_get, Option, Some, None, refl, sym, ap, subst, arith, eqb-true, eq-eqb}
use Rattle.std.specs.Prelude.{◌==◌, ◌^◌, if◌then◌else◌, set, slice_index_or}
use Rattle.std.proofs.lemmas.Bool.Decides.{nat_tests}
use Rattle.std.proofs.lemmas.Option.{slice_get_within, slice_get-get_or}
use Rattle.std.proofs.lemmas.List.{length-append, take-append-drop}
use Rattle.messages.specs.declared.envelope.Envelope.{Envelope}
use Rattle.messages.specs.declared.event.ActorEvent.{ActorEvent}
use Rattle.messages.specs.declared.event.ActorEvent.TheVariants.{Submit, Handle, Collect}
use Rattle.messages.specs.Actors.{envelope_of}
use Rattle.write_txn.proofs.Lists.{read_set}
use Rattle.world.proofs.in_code.Running.{length_set}
use Rattle.world.proofs.growing.Prefixes.{get_there}
use Rattle.actors.specs.Journals.{receipts_from, followed_by}
use Rattle.actors.specs.Seats.{SeatValue, through}
use Rattle.threaded.specs.OneRun.{seat_of}
use Rattle.threaded.specs.Matching.{ArePlaces, sent_at, sent_to, DoesReceive, HaveReceived, IsNextOn}
use Rattle.threaded.proofs.Looked.{seat_is}
use Rattle.threaded.proofs.Lists.{take_one_more}

-- ## Receipts

-- what an event receives from a node
abbrev pub receipt : ℕ → ActorEvent → List Envelope
receipt from x = receipts_from from (x ∷ [])

receipts_then : (from : ℕ) (xs ys : List ActorEvent) → receipts_from from (xs ++ ys) ≡ receipts_from from xs ++ receipts_from from ys
receipts_then from [] ys = refl
receipts_then from (Submit o ∷ xs) ys = receipts_then from xs ys
receipts_then from (Collect time ∷ xs) ys = receipts_then from xs ys
receipts_then from (Handle e ∷ xs) ys = by (e.from == from) (receipts_then from xs ys)
  where
    by : (b : Bool) → receipts_from from (xs ++ ys) ≡ receipts_from from xs ++ receipts_from from ys
        → cond b (e ∷ receipts_from from (xs ++ ys)) (receipts_from from (xs ++ ys)) ≡ cond b (e ∷ receipts_from from xs) (receipts_from from xs) ++ receipts_from from ys
    by true rest = ap (λ l. e ∷ l) rest
    by false rest = rest

pub receipt_here : (from : ℕ) (e : Envelope) → e.from ≡ from → receipt from (Handle e) ≡ e ∷ []
receipt_here from e is = ap (λ b. cond b (e ∷ []) []) (eq-eqb e.from from is)

pub receipt_elsewhere : (from : ℕ) (e : Envelope) → (e.from == from) ≡ false → receipt from (Handle e) ≡ []
receipt_elsewhere from e apart = ap (λ b. cond b (e ∷ []) []) apart

pub one_more : (from : ℕ) (journal : List ActorEvent) (place : ℕ) (x : ActorEvent) → slice_get journal place ≡ Some x
    → receipts_from from (take (suc place) journal) ≡ receipts_from from (take place journal) ++ receipt from x
one_more from journal place x at = ap (receipts_from from) (take_one_more journal place x at) ∙ receipts_then from (take place journal) (x ∷ [])

-- there are no more receipts than events
pub receipts_fewer : (from : ℕ) (xs : List ActorEvent) → length (receipts_from from xs) ≤ length xs
receipts_fewer from [] = omega arith
receipts_fewer from (Submit o ∷ xs) = let rest = receipts_fewer from xs in omega arith
receipts_fewer from (Collect time ∷ xs) = let rest = receipts_fewer from xs in omega arith
receipts_fewer from (Handle e ∷ xs) = by (e.from == from) (receipts_fewer from xs)
  where
    by : (b : Bool) → length (receipts_from from xs) ≤ length xs → length (cond b (e ∷ receipts_from from xs) (receipts_from from xs)) ≤ suc (length xs)
    by true rest = omega arith
    by false rest = omega arith

pub take_fewer : {X : Type 0} (n : ℕ) (xs : List X) → length (take n xs) ≤ n
take_fewer zero xs = omega arith
take_fewer (suc n) [] = omega arith
take_fewer (suc n) (x ∷ xs) = let rest = take_fewer n xs in omega arith

-- ## Counting

pub one_more_none : (received : List ℕ) (count : ℕ) → ((from n : ℕ) → slice_get received from ≡ Some n → n ≡ 0)
    → (from n : ℕ) → slice_get (received ++ 0 ∷ []) from ≡ Some n → n ≡ 0
one_more_none [] count none zero n at = cc
one_more_none [] count none (suc from) n at = absurd cc
one_more_none (m ∷ received) count none zero n at = none 0 n at
one_more_none (m ∷ received) count none (suc from) n at = one_more_none received count (λ k j there. none (suc k) j there) from n at

module _ (count : ℕ) (seats : List SeatValue) (to : ℕ) (journal : List ActorEvent) (place : ℕ) (received : List ℕ) (so_far : HaveReceived count seats to (take place journal) received) where
  -- no count is above the number of events
  pub within_place : (from n : ℕ) → slice_get received from ≡ Some n → n ≤ place
  within_place from n at =
      let r = so_far.each from n at in
      let a = receipts_fewer from (take place journal) in
      let b = take_fewer place journal in
      let len = r.1 in
      omega arith

  pub own_event : (x : ActorEvent) → slice_get journal place ≡ Some x → envelope_of x ≡ None → HaveReceived count seats to (take (place + 1) journal) received
  own_event x at own =
      let one : place + 1 ≡ suc place = omega arith in
      record {
        len = so_far.len;
        each = λ from n there.
            let r = so_far.each from n there in
            let same : receipts_from from (take (place + 1) journal) ≡ receipts_from from (take place journal) =
            ap (λ k. receipts_from from (take k journal)) one ∙ one_more from journal place x at ∙ ap (λ l. receipts_from from (take place journal) ++ l) (none from x own)
            ∙ append-nil (receipts_from from (take place journal)) in
            (same ∙ r.0, ap (λ (l : List Envelope). length l) same ∙ r.1);
      }
    where
      none : (from : ℕ) (x : ActorEvent) → envelope_of x ≡ None → receipt from x ≡ []
      none from (Submit o) own = refl
      none from (Collect time) own = refl
      none from (Handle e) own = absurd cc

  module _ (e : Envelope) (at : slice_get journal place ≡ Some (Handle e)) where
    pub next_received : IsNextOn seats to received e → (now : List ℕ)
        → ((n : ℕ) → slice_get received e.from ≡ Some n → now ≡ set received e.from (n + 1)) → HaveReceived count seats to (take (place + 1) journal) now
    next_received next now counted =
        let set = counted next.count next.so_far in
        let lt : e.from < length received = slice_get_within received e.from next.count next.so_far in
        let one : place + 1 ≡ suc place = omega arith in
        record {
          len = ap (λ (l : List ℕ). length l) set ∙ length_set received e.from (next.count + 1) ∙ so_far.len;
          each = λ from n there.
              subst (λ k. (receipts_from from (take k journal) ≡ take n (sent_to seats from to)) × (length (receipts_from from (take k journal)) ≡ n)) (sym one)
              (by from n (from == e.from) refl (sym (read_set received e.from (next.count + 1) lt from) ∙ ap (λ (l : List ℕ). slice_get l from) (sym set) ∙ there));
        }
      where
        by : (from n : ℕ) (b : Bool) → (from == e.from) ≡ b → (if from == e.from then Some (next.count + 1) else slice_get received from) ≡ Some n
            → (receipts_from from (take (suc place) journal) ≡ take n (sent_to seats from to)) × (length (receipts_from from (take (suc place) journal)) ≡ n)
        by from n true q there =
            let here : e.from ≡ from = sym (eqb-true from e.from q) in
            let read : Some (next.count + 1) ≡ Some n = sym (ap (λ b. if b then Some (next.count + 1) else slice_get received from) q) ∙ there in
            let is : next.count + 1 ≡ n = cc in
            let up : suc next.count ≡ n = omega (arith, is) in
            let was = so_far.each from next.count (subst (λ m. slice_get received m ≡ Some next.count) here next.so_far) in
            let sent : slice_get (sent_to seats from to) next.count ≡ Some e = subst (λ m. slice_get (sent_to seats m to) next.count ≡ Some e) here next.next in
            let more : receipts_from from (take (suc place) journal) ≡ receipts_from from (take place journal) ++ e ∷ [] =
            one_more from journal place (Handle e) at ∙ ap (λ l. receipts_from from (take place journal) ++ l) (receipt_here from e here) in
            let all : receipts_from from (take (suc place) journal) ≡ take (suc next.count) (sent_to seats from to) =
            more ∙ ap (λ l. l ++ e ∷ []) was.0 ∙ sym (take_one_more (sent_to seats from to) next.count e sent) in
            let long : length (receipts_from from (take (suc place) journal)) ≡ length (receipts_from from (take place journal)) + 1 =
            ap (λ (l : List Envelope). length l) more ∙ length-append (receipts_from from (take place journal)) (e ∷ []) in
            (all ∙ ap (λ k. take k (sent_to seats from to)) up, long ∙ ap (λ k. k + 1) was.1 ∙ is)
        by from n false q there =
            let away : (e.from == from) ≡ false = grind (arith, nat_tests) in
            let read : slice_get received from ≡ Some n = sym (ap (λ b. if b then Some (next.count + 1) else slice_get received from) q) ∙ there in
            let was = so_far.each from n read in
            let same : receipts_from from (take (suc place) journal) ≡ receipts_from from (take place journal) =
            one_more from journal place (Handle e) at ∙ ap (λ l. receipts_from from (take place journal) ++ l) (receipt_elsewhere from e away)
            ∙ append-nil (receipts_from from (take place journal)) in
            (same ∙ was.0, ap (λ (l : List Envelope). length l) same ∙ was.1)

    -- what a journal receives next is the next one on its link, if its receipts are a beginning of what was sent
    pub not_next : e.from < count → (IsNextOn seats to received e → ⊥) → DoesReceive count seats to journal → ⊥
    not_next sender apart does =
        let lt : e.from < length received = subst (λ n. e.from < n) (sym so_far.len) sender in
        let n = get_there received e.from lt in
        let was = so_far.each e.from n.0 n.1 in
        let b = does e.from sender in
        let whole : journal ≡ (take place journal ++ Handle e ∷ []) ++ drop (suc place) journal =
        sym (take-append-drop (suc place) journal) ∙ ap (λ l. l ++ drop (suc place) journal) (take_one_more journal place (Handle e) at) in
        let split : receipts_from e.from journal ≡ (receipts_from e.from (take place journal) ++ e ∷ []) ++ receipts_from e.from (drop (suc place) journal) =
        ap (receipts_from e.from) whole ∙ receipts_then e.from (take place journal ++ Handle e ∷ []) (drop (suc place) journal)
        ∙ ap (λ l. l ++ receipts_from e.from (drop (suc place) journal))
        (receipts_then e.from (take place journal) (Handle e ∷ []) ∙ ap (λ l. receipts_from e.from (take place journal) ++ l) (receipt_here e.from e refl)) in
        let sent : sent_to seats e.from to ≡ ((receipts_from e.from (take place journal) ++ e ∷ []) ++ receipts_from e.from (drop (suc place) journal)) ++ b.0 =
        b.1 ∙ ap (λ l. l ++ b.0) split in
        let there = at_end (receipts_from e.from (take place journal)) e (receipts_from e.from (drop (suc place) journal)) b.0 in
        apart (record { count = n.0; so_far = n.1; next = ap (λ l. slice_get l n.0) sent ∙ ap (slice_get _) (sym was.1) ∙ there })
      where
        at_end : (xs : List Envelope) (x : Envelope) (ys zs : List Envelope) → slice_get (((xs ++ x ∷ []) ++ ys) ++ zs) (length xs) ≡ Some x
        at_end [] x ys zs = refl
        at_end (y ∷ xs) x ys zs = at_end xs x ys zs

pub all_received : (count : ℕ) (seats : List SeatValue) (to : ℕ) (journal : List ActorEvent) (place : ℕ) (received : List ℕ) → length journal ≤ place
    → HaveReceived count seats to (take place journal) received → DoesReceive count seats to journal
all_received count seats to journal place received end so_far from lt =
    let n = get_there received from (subst (λ k. from < k) (sym so_far.len) lt) in
    let r = so_far.each from n.0 n.1 in
    let whole : take place journal ≡ journal = past place journal end in (
      drop n.0 (sent_to seats from to),
      sym (take-append-drop n.0 (sent_to seats from to)) ∙ ap (λ l. l ++ drop n.0 (sent_to seats from to)) (sym r.0 ∙ ap (receipts_from from) whole),
    )
  where
    past : {X : Type 0} (n : ℕ) (xs : List X) → length xs ≤ n → take n xs ≡ xs
    past zero [] le = refl
    past zero (x ∷ xs) le = absurd (omega arith)
    past (suc n) [] le = refl
    past (suc n) (x ∷ xs) le = ap (λ l. x ∷ l) (past n xs (omega arith))

-- ## By the seat of a sender

module _ (seats : List SeatValue) (places : List ℕ) (to : ℕ) (received : List ℕ) (e : Envelope) (seat : SeatValue) (from n : ℕ) (are : ArePlaces (length places) seats places)
    (sender : e.from < length places) (is : from ≡ e.from) (here : seat ≡ slice_index_or seats (slice_index_or places from 0) seat)
    (within : from < length received) (count : n ≡ slice_index_or received from n) where
  its_seat : seat_of seats e.from ≡ Some seat
  its_seat =
      seat_is seats places (length places) e.from are sender seat (here ∙ ap (λ k. slice_index_or seats (slice_index_or places k 0) seat) is)

  so_many : slice_get received e.from ≡ Some n
  so_many = ap (slice_get received) (sym is) ∙ slice_get-get_or received from n within ∙ ap Some (sym count)

  its_sends : (o : Option Envelope) → o ≡ slice_get (followed_by (through seat.outgoing) seat.outbox to) n → slice_get (sent_to seats e.from to) n ≡ o
  its_sends o at = ap (λ s. slice_get (sent_at s to) n) its_seat ∙ sym at

  pub next_on : (sent : Envelope) → Some sent ≡ slice_get (followed_by (through seat.outgoing) seat.outbox to) n → sent ≡ e → IsNextOn seats to received e
  next_on sent at same = record { count = n; so_far = so_many; next = its_sends (Some sent) at ∙ ap Some same }

  pub counted_on : (m : ℕ) → slice_get received e.from ≡ Some m → set received from (n + 1) ≡ set received e.from (m + 1)
  counted_on m at =
      let both : Some n ≡ Some m = sym so_many ∙ at in
      let same : n ≡ m = cc in
      ap (λ k. set received k (n + 1)) is ∙ ap (λ k. set received e.from (k + 1)) same

  pub not_on : (o : Option Envelope) → o ≡ slice_get (followed_by (through seat.outgoing) seat.outbox to) n → ((sent : Envelope) → o ≡ Some sent → sent ≡ e → ⊥)
      → IsNextOn seats to received e → ⊥
  not_on o at other next =
      let both : Some n ≡ Some next.count = sym so_many ∙ next.so_far in
      let same : n ≡ next.count = cc in
      other e (sym (its_sends o at) ∙ ap (slice_get (sent_to seats e.from to)) same ∙ next.next) refl

  -- the count is far below the greatest number
  pub small_count : ((k : ℕ) → slice_get received e.from ≡ Some k → k + 1 < 2 ^ 64) → n + 1 < 2 ^ 64
  small_count fits = fits n so_many
