-- The receipts of journals are counted, and what the seats sent is compared with that.
use Rattle.std.proofs.Common.{append-nil, ◌≡◌, ◌∙◌, ℕ, zero, suc, ◌∷◌, ◌+◌, ◌<◌, ◌≤◌, Bool, true, false, ◌&&◌, [], List, length, take, slice_get, Some, None, ◌⊎◌, inl, inr, refl, sym, ap, subst, arith, eqb-true}
use Rattle.std.specs.Prelude.{◌==◌, ◌↔◌, ◌++◌, if◌then◌else◌, set, slice_index_or, Result, Ok, Err, IfOk, OnOk}
use Rattle.std.proofs.lemmas.Bool.Decides.{nat_tests}
use Rattle.std.proofs.lemmas.Bool.{cases_lt, and_parts}
use Rattle.std.proofs.lemmas.Option.{slice_get_within, slice_get_past, slice_get-get_or}
use Rattle.std.proofs.lemmas.List.{length-append}
use Rattle.messages.specs.declared.envelope.Envelope.{Envelope}
use Rattle.messages.specs.declared.event.ActorEvent.{ActorEvent}
use Rattle.messages.specs.declared.event.ActorEvent.TheVariants.{Submit, Handle, Collect}
use Rattle.messages.specs.Topology.{TopologyValue, node_count}
use Rattle.messages.specs.Actors.{envelope_of}
use Rattle.write_txn.proofs.Lists.{read_set}
use Rattle.world.specs.Quiet.{IsQuiet}
use Rattle.world.proofs.lists.Replacing.{item_at}
use Rattle.world.proofs.in_code.Running.{length_set}
use Rattle.world.proofs.growing.Prefixes.{get_there}
use Rattle.actors.specs.Journals.{receipts_from, followed_by}
use Rattle.actors.specs.Seats.{SeatValue, through}
use Rattle.threaded.specs.OneRun.{seat_of, journal_of, journal_at}
use Rattle.threaded.specs.Matching.{AreKept, IsKept, IsPlace, sent_at, sent_to}
use Rattle.threaded.specs.Concluded.{InEachRun, AreConcluded}
use Rattle.threaded.specs.Quiet.{AreAllReceived, AreOfQuietRun, HaveCounted, IsKeptAt, IsWhollyReceived, AreWhollyReceived, AreReceivedOf, AreAllServed}
use Rattle.threaded.proofs.Matched.{receipt, one_more, receipt_here, receipt_elsewhere, receipts_fewer, take_fewer}
use Rattle.threaded.proofs.QuietRuns.{of_quiet_run, of_no_quiet_run, received_if_counted, counted_if_received}

-- ## One number

pub so_many : (received : List ℕ) (node from n : ℕ) → from ≡ node → from < length received → n ≡ slice_index_or received from n → slice_get received node ≡ Some n
so_many received node from n is within at = ap (slice_get received) (sym is) ∙ slice_get-get_or received from n within ∙ ap Some (sym at)

pub counted_one : (received : List ℕ) (node from n : ℕ) → from ≡ node → from < length received → n ≡ slice_index_or received from n
    → (m : ℕ) → slice_get received node ≡ Some m → set received from (n + 1) ≡ set received node (m + 1)
counted_one received node from n is within at m here =
    let both : Some n ≡ Some m = sym (so_many received node from n is within at) ∙ here in
    let same : n ≡ m = cc in
    ap (λ k. set received k (n + 1)) is ∙ ap (λ k. set received node (k + 1)) same

-- ## One journal

pub none_counted : (count : ℕ) (received : List ℕ) → length received ≡ count → ((from n : ℕ) → slice_get received from ≡ Some n → n ≡ 0) → HaveCounted count [] received
none_counted count received len none = record { len = len; each = λ from n at. sym (none from n at) }

module _ (count : ℕ) (journal : List ActorEvent) (place : ℕ) (received : List ℕ) (so_far : HaveCounted count (take place journal) received) where
  -- no count is above the number of events
  pub count_within : (from n : ℕ) → slice_get received from ≡ Some n → n ≤ place
  count_within from n at =
      let is = so_far.each from n at in
      let a = receipts_fewer from (take place journal) in
      let b = take_fewer place journal in
      omega (arith, is, a, b)

  pub own_counted : (x : ActorEvent) → slice_get journal place ≡ Some x → envelope_of x ≡ None → HaveCounted count (take (place + 1) journal) received
  own_counted x at own =
      let one : place + 1 ≡ suc place = omega arith in
      record {
        len = so_far.len;
        each = λ from n there.
            let same : receipts_from from (take (place + 1) journal) ≡ receipts_from from (take place journal) =
            ap (λ k. receipts_from from (take k journal)) one ∙ one_more from journal place x at ∙ ap (λ l. receipts_from from (take place journal) ++ l) (none from x own)
            ∙ append-nil (receipts_from from (take place journal)) in
            ap (λ (l : List Envelope). length l) same ∙ so_far.each from n there;
      }
    where
      none : (from : ℕ) (x : ActorEvent) → envelope_of x ≡ None → receipt from x ≡ []
      none from (Submit o) own = refl
      none from (Collect time) own = refl
      none from (Handle e) own = absurd cc

  pub receipt_counted : (e : Envelope) → slice_get journal place ≡ Some (Handle e) → (n : ℕ) → slice_get received e.from ≡ Some n
      → HaveCounted count (take (place + 1) journal) (set received e.from (n + 1))
  receipt_counted e at n here =
      let lt : e.from < length received = slice_get_within received e.from n here in
      record {
        len = length_set received e.from (n + 1) ∙ so_far.len;
        each = λ from m there.
            by from m (from == e.from) refl (sym (read_set received e.from (n + 1) lt from) ∙ there);
      }
    where
      one : place + 1 ≡ suc place
      one = omega arith

      by : (from m : ℕ) (b : Bool) → (from == e.from) ≡ b → (if from == e.from then Some (n + 1) else slice_get received from) ≡ Some m
          → length (receipts_from from (take (place + 1) journal)) ≡ m
      by from m true q there =
          let is_from : e.from ≡ from = sym (eqb-true from e.from q) in
          let read : Some (n + 1) ≡ Some m = sym (ap (λ b. if b then Some (n + 1) else slice_get received from) q) ∙ there in
          let is : n + 1 ≡ m = cc in
          let was = so_far.each from n (subst (λ k. slice_get received k ≡ Some n) is_from here) in
          let more : receipts_from from (take (place + 1) journal) ≡ receipts_from from (take place journal) ++ receipt from (Handle e) =
          ap (λ k. receipts_from from (take k journal)) one ∙ one_more from journal place (Handle e) at in
          ap (λ (l : List Envelope). length l) (more ∙ ap (λ l. receipts_from from (take place journal) ++ l) (receipt_here from e is_from))
          ∙ length-append (receipts_from from (take place journal)) _ ∙ ap (λ k. k + 1) was ∙ is
      by from m false q there =
          let away : (e.from == from) ≡ false = grind (arith, nat_tests) in
          let read : slice_get received from ≡ Some m = sym (ap (λ b. if b then Some (n + 1) else slice_get received from) q) ∙ there in
          ap (λ (l : List Envelope). length l)
          (ap (λ k. receipts_from from (take k journal)) one ∙ one_more from journal place (Handle e) at
          ∙ ap (λ l. receipts_from from (take place journal) ++ l) (receipt_elsewhere from e away) ∙ append-nil (receipts_from from (take place journal)))
          ∙ so_far.each from m read

  -- so it is with any list that has this set
  pub counted_then : (e : Envelope) → slice_get journal place ≡ Some (Handle e) → e.from < length received → (now : List ℕ)
      → ((n : ℕ) → slice_get received e.from ≡ Some n → now ≡ set received e.from (n + 1)) → HaveCounted count (take (place + 1) journal) now
  counted_then e at lt now set =
      let z = get_there received e.from lt in
      subst (λ l. HaveCounted count (take (place + 1) journal) l) (sym (set z.0 z.1)) (receipt_counted e at z.0 z.1)

pub all_counted : (count : ℕ) (journal : List ActorEvent) (place : ℕ) (received : List ℕ) → length journal ≤ place → HaveCounted count (take place journal) received
    → HaveCounted count journal received
all_counted count journal place received end so_far = subst (λ l. HaveCounted count l received) (past place journal end) so_far
  where
    past : {X : Type 0} (n : ℕ) (xs : List X) → length xs ≤ n → take n xs ≡ xs
    past zero [] le = refl
    past zero (x ∷ xs) le = absurd (omega arith)
    past (suc n) [] le = refl
    past (suc n) (x ∷ xs) le = ap (λ l. x ∷ l) (past n xs (omega arith))

-- ## One link

pub the_seat_there : (seats : List SeatValue) (node place : ℕ) (s : SeatValue) → IsPlace seats node place → s ≡ slice_index_or seats place s → seat_of seats node ≡ Some s
the_seat_there seats node place s p here =
    let at = item_at seats place s (slice_get_within seats place p.seat p.at) here in
    let both : Some p.seat ≡ Some s = sym p.at ∙ at in
    let same : p.seat ≡ s = cc in
    p.found ∙ ap Some same

-- something stands at a number, or nothing does
pub more_sent : {X : Type 0} (xs : List X) (n : ℕ) (x : X) → Some x ≡ slice_get xs n → (false ≡ true) ↔ (length xs ≤ n)
more_sent xs n x at = (λ no. absurd (cc), λ le. let none = slice_get_past xs n le in let no : Some x ≡ None = at ∙ none in absurd (cc))

pub no_more_sent : {X : Type 0} (xs : List X) (n : ℕ) → None ≡ slice_get xs n → (true ≡ true) ↔ (length xs ≤ n)
no_more_sent xs n none = (
  λ on. elim (cases_lt n (length xs)) [
    | inl lt ↦ let z = get_there xs n lt in let no : None ≡ Some z.0 = none ∙ z.1 in absurd (cc)
    | inr le ↦ le
  ],
  λ le. refl,
)

pub whole_by_seat : (seats : List SeatValue) (from to count : ℕ) (seat : SeatValue) (all : Bool) → seat_of seats from ≡ Some seat
    → (all ≡ true) ↔ (length (followed_by (through seat.outgoing) seat.outbox to) ≤ count) → (all ≡ true) ↔ IsWhollyReceived seats from to count
whole_by_seat seats from to count seat all found told =
    let same : sent_to seats from to ≡ followed_by (through seat.outgoing) seat.outbox to = ap (λ s. sent_at s to) found in
    subst (λ (l : List Envelope). (all ≡ true) ↔ (length l ≤ count)) (sym same) told

-- without a seat nothing was sent
pub nothing_sent : (seats : List SeatValue) (from to count : ℕ) → seat_of seats from ≡ None → (true ≡ true) ↔ IsWhollyReceived seats from to count
nothing_sent seats from to count none =
    let same : sent_to seats from to ≡ [] = ap (λ s. sent_at s to) none in
    (λ on. subst (λ (l : List Envelope). length l ≤ count) (sym same) (omega arith), λ le. refl)

below_or_last : (i k : ℕ) → i < k + 1 → (i < k) ⊎ (i ≡ k)
below_or_last i k lt = elim (cases_lt i k) [ inl less ↦ inl less | inr le ↦ inr (omega (arith, lt, le)) ]

-- the first so many of these nodes received all
abbrev pub AreFirstServed : ℕ → List SeatValue → ℕ → Type 0
AreFirstServed count seats k = (to : ℕ) → to < k → AreReceivedOf count seats to

pub one_more_whole : (seats : List SeatValue) (from to i node : ℕ) (received : List ℕ) → i ≡ from → node ≡ from → from < length received
    → IsWhollyReceived seats node to (slice_index_or received i 0) → AreWhollyReceived seats from to received → AreWhollyReceived seats (from + 1) to received
one_more_whole seats from to i node received is other lt whole are k m below there = elim (below_or_last k from below) [
  | inl less ↦ are k m less there
  | inr last ↦
      let both : Some m ≡ Some (slice_index_or received from 0) = sym there ∙ ap (slice_get received) last ∙ slice_get-get_or received from 0 lt in
      let same : m ≡ slice_index_or received from 0 = cc in
      let here : IsWhollyReceived seats from to (slice_index_or received from 0) =
      subst (λ z. IsWhollyReceived seats z to (slice_index_or received from 0)) other (subst (λ z. IsWhollyReceived seats node to (slice_index_or received z 0)) is whole) in
      subst (λ z. IsWhollyReceived seats z to m) (sym last) (subst (λ z. IsWhollyReceived seats from to z) (sym same) here)
]

pub not_all_whole : (seats : List SeatValue) (count from to i node : ℕ) (received : List ℕ) (all : Bool) → i ≡ from → node ≡ from → from < count → from < length received
    → (all ≡ true) ↔ IsWhollyReceived seats node to (slice_index_or received i 0) → all ≡ false → (false ≡ true) ↔ AreWhollyReceived seats count to received
not_all_whole seats count from to i node received all is other below lt told off = (
  λ no. absurd (cc),
  λ are.
      let here : IsWhollyReceived seats from to (slice_index_or received from 0) = are from (slice_index_or received from 0) below (slice_get-get_or received from 0 lt) in
      let there : IsWhollyReceived seats node to (slice_index_or received i 0) =
      subst (λ z. IsWhollyReceived seats z to (slice_index_or received i 0)) (sym other) (subst (λ z. IsWhollyReceived seats from to (slice_index_or received z 0)) (sym is) here) in
      let on : all ≡ true = told.1 there in
      absurd (cc),
)

pub all_whole : (seats : List SeatValue) (count from to : ℕ) (received : List ℕ) → count ≤ from → AreWhollyReceived seats from to received
    → (true ≡ true) ↔ AreWhollyReceived seats count to received
all_whole seats count from to received end are = (λ on k m below there. are k m (omega (arith, below, end)) there, λ also. refl)

-- what was counted tells whether an actor received all
pub served_if_whole : (count : ℕ) (seats : List SeatValue) (node to : ℕ) (seat : SeatValue) (journal : List ActorEvent) (received : List ℕ) (all : Bool) → to ≡ node
    → seat_of seats node ≡ Some seat → journal ≡ seat.journal → HaveCounted count journal received → (all ≡ true) ↔ AreWhollyReceived seats count to received
    → (all ≡ true) ↔ AreReceivedOf count seats node
served_if_whole count seats node to seat journal received all is found its counted told = (
  λ on from lt.
      let z = get_there received from (subst (λ k. from < k) (sym counted.len) lt) in
      let le : length (sent_to seats from to) ≤ z.0 = told.0 on from z.0 lt z.1 in
      let n = counted.each from z.0 z.1 in
      let j : length (receipts_from from (journal_of seats node)) ≡ z.0 = ap (λ l. length (receipts_from from l)) (sym here) ∙ n in
      subst (λ m. length (sent_to seats from m) ≤ length (receipts_from from (journal_of seats node))) is (omega (arith, le, j)),
  λ served. told.1 (λ from m lt at.
      let n = counted.each from m at in
      let j : length (receipts_from from (journal_of seats node)) ≡ m = ap (λ l. length (receipts_from from l)) (sym here) ∙ n in
      let le = served from lt in
      subst (λ k. length (sent_to seats from k) ≤ m) (sym is) (omega (arith, le, j))),
)
  where
    here : journal ≡ journal_of seats node
    here = its ∙ sym (ap journal_at found)

pub kept_there : (seats : List SeatValue) (node : ℕ) (seat : SeatValue) → seat_of seats node ≡ Some seat → IsKept seat → IsKeptAt seats node
kept_there seats node seat found is s there =
    let both : Some seat ≡ Some s = sym found ∙ there in
    let same : seat ≡ s = cc in
    subst IsKept same is

-- ## All actors

pub one_more_kept_at : (seats : List SeatValue) (node : ℕ) → IsKeptAt seats node → AreKept node seats → AreKept (node + 1) seats
one_more_kept_at seats node is are m t below there = elim (below_or_last m node below) [
  | inl less ↦ are m t less there
  | inr last ↦ is t (ap (seat_of seats) (sym last) ∙ there)
]

pub one_more_served : (count : ℕ) (seats : List SeatValue) (node : ℕ) (before now also : Bool) → now ≡ (before && also) → (also ≡ true) ↔ AreReceivedOf count seats node
    → (before ≡ true) ↔ AreFirstServed count seats node → (now ≡ true) ↔ AreFirstServed count seats (node + 1)
one_more_served count seats node before now also is here tied = (
  λ on to below.
      let two = and_parts before also (sym is ∙ on) in
      elim (below_or_last to node below) [
        | inl less ↦ tied.0 two.0 to less
        | inr last ↦ subst (λ z. AreReceivedOf count seats z) (sym last) (here.0 two.1)
      ],
  λ are.
      let a : before ≡ true = tied.1 (λ to less. are to (omega (arith, less))) in
      let b : also ≡ true = here.1 (are node (omega arith)) in
      is ∙ ap (λ c. c && also) a ∙ b,
)

pub quiet_if_served : (top : TopologyValue) (seats : List SeatValue) (quiet : Bool) → AreConcluded top seats → AreKept (node_count top) seats
    → (quiet ≡ true) ↔ AreAllServed (node_count top) seats → quiet ≡ true → AreOfQuietRun top seats
quiet_if_served top seats quiet c kept told on = of_quiet_run top seats c (received_if_counted top seats c kept (λ from to f t. told.0 on to t from f))

pub received_if_served : (top : TopologyValue) (seats : List SeatValue) (quiet : Bool) → AreConcluded top seats → AreKept (node_count top) seats
    → (quiet ≡ true) ↔ AreAllServed (node_count top) seats → (quiet ≡ true) ↔ AreAllReceived top seats
received_if_served top seats quiet c kept told = (
  λ on. received_if_counted top seats c kept (λ from to f t. told.0 on to t from f),
  λ all. told.1 (λ to t from f. counted_if_received top seats c kept all from to f t),
)

pub not_quiet_if_not_served : (top : TopologyValue) (seats : List SeatValue) (quiet : Bool) → AreConcluded top seats → AreKept (node_count top) seats
    → (quiet ≡ true) ↔ AreAllServed (node_count top) seats → quiet ≡ false → InEachRun top seats (λ w. IsQuiet w → ⊥)
not_quiet_if_not_served top seats quiet c kept told off =
    of_no_quiet_run top seats c (λ all. let on : quiet ≡ true = (received_if_served top seats quiet c kept told).1 all in absurd (cc))

-- ## As code answers it

module _ {X : Type 0} (top : TopologyValue) (seats : List SeatValue) (c : AreConcluded top seats) where
  pub links_told : (r : Result Bool X) → OnOk r (AreKept (node_count top) seats) → IfOk r (λ all. (all ≡ true) ↔ AreAllServed (node_count top) seats)
      → IfOk r (λ quiet. (quiet ≡ true) ↔ AreAllReceived top seats)
  links_told (Ok b) kept told = received_if_served top seats b c kept told
  links_told (Err e) kept told = tt

  pub quiet_told : (r : Result Bool X) → OnOk r (AreKept (node_count top) seats) → IfOk r (λ all. (all ≡ true) ↔ AreAllServed (node_count top) seats)
      → IfOk r (λ quiet. quiet ≡ true → AreOfQuietRun top seats)
  quiet_told (Ok b) kept told = quiet_if_served top seats b c kept told
  quiet_told (Err e) kept told = tt

  pub other_told : (r : Result Bool X) → OnOk r (AreKept (node_count top) seats) → IfOk r (λ all. (all ≡ true) ↔ AreAllServed (node_count top) seats)
      → IfOk r (λ quiet. quiet ≡ false → InEachRun top seats (λ w. IsQuiet w → ⊥))
  other_told (Ok b) kept told = not_quiet_if_not_served top seats b c kept told
  other_told (Err e) kept told = tt
