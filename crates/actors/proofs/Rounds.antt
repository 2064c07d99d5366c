-- Seats after turns, one by one and round by round.
use Rattle.std.proofs.Common.{◌≡◌, ℕ, ◌+◌, ◌≤◌, ◌<◌, List, [], ◌∷◌, ◌++◌, length, set, get_or, Some, refl, ap, sym, subst, ◌∙◌, append_assoc, inl, inr, arith}
use Rattle.std.specs.Prelude.{All}
use Rattle.std.specs.List.{slice_get}
use Rattle.std.proofs.lemmas.List.{append-nil, length-append, length-set}
use Rattle.std.proofs.lemmas.List.Sums.{sum_by-set}
use Rattle.std.proofs.lemmas.Bool.Decides.{eqb_tells}
use Rattle.std.proofs.lemmas.Option.{slice_get_within, slice_get-get_or}
use Rattle.logical_time.specs.declared.fault.Fault.{Fault}
use Rattle.messages.specs.declared.event.ActorEvent.{ActorEvent}
use Rattle.actors.specs.Journals.{IsBeginning}
use Rattle.actors.specs.Machines.{Refuses}
use Rattle.actors.specs.Seats.{SeatValue}
use Rattle.actors.specs.Resting.{unsent, IsResting}
use Rattle.actors.specs.Turns.{HasSame, HasDone, HasRested, IsIdle, IsTurn, HasLooked}
use Rattle.actors.specs.Refusals.{CanRefuse}
use Rattle.actors.specs.Draining.{Taken, AreTaken, HaveTaken, HaveStopped, OneCanRefuse, IsLater, AreLater, HasCome, IsRound, events_left, all_left, all_unsent, once_moved, with_turn}
use Rattle.actors.specs.declared.turn.Turn.{Turn}
use Rattle.actors.specs.declared.turn.Turn.TheVariants.{Idle, Moved, Handled, Submitted, Collected, Refused}
use Rattle.actors.specs.declared.draining.Round.{Round}
use Rattle.actors.specs.declared.draining.Round.TheVariants.{Quiet, Stirred, Worked}
use Rattle.actors.proofs.Lists.{here, all_of, set_at, set_here, set_away}

same_beginning : {X : Type 0} (xs ys : List X) → ys ≡ xs → IsBeginning xs ys
same_beginning xs ys is = ([], is ∙ sym (append-nil xs))

further : {X : Type 0} (xs ys zs : List X) → IsBeginning xs ys → IsBeginning ys zs → IsBeginning xs zs
further xs ys zs first then = (first.0 ++ then.0, then.1 ∙ ap (λ l. l ++ then.0) first.1 ∙ append_assoc xs first.0 then.0)

-- one seat

pub same_later : (d n : SeatValue) → HasSame d n → IsLater d n
same_later d n same = record {
  topology = same.topology;
  node = same.node;
  limit = same.limit;
  journal = same_beginning d.journal n.journal same.journal;
  outcomes = same_beginning d.outcomes n.outcomes same.outcomes;
  refusals = same_beginning d.refusals n.refusals same.refusals;
  backlog = ([], sym same.backlog);
  rings = same.rings;
}

done_later : (event : ActorEvent) (d n : SeatValue) → HasDone event d n → (gone : List ActorEvent) → d.backlog ≡ gone ++ n.backlog → IsLater d n
done_later event d n done gone backlog = record {
  topology = done.topology;
  node = done.node;
  limit = done.limit;
  journal = (event ∷ [], done.journal);
  outcomes = done.outcomes;
  refusals = same_beginning d.refusals n.refusals done.refusals;
  backlog = (gone, backlog);
  rings = done.rings;
}

pub turn_later : (refuses : Refuses) (turn : Turn) (d n : SeatValue) → IsTurn refuses turn d n → IsLater d n
turn_later refuses Idle d n is = same_later d n is.0.same
turn_later refuses Moved d n is = same_later d n is.0.same
turn_later refuses Handled d n is = done_later _ d n is.1 [] (sym is.2)
turn_later refuses (Submitted number) d n is = done_later _ d n is.1 (_ ∷ []) is.2
turn_later refuses Collected d n is = done_later _ d n is.1 (_ ∷ []) is.2
turn_later refuses (Refused fault) d n is = record {
  topology = is.topology;
  node = is.node;
  limit = is.limit;
  journal = same_beginning d.journal n.journal is.journal;
  outcomes = same_beginning d.outcomes n.outcomes is.outcomes;
  refusals = (_ ∷ [], is.refusals);
  backlog = (is.off.event ∷ [], is.off.first);
  rings = is.rings;
}

later_twice : (a b c : SeatValue) → IsLater a b → IsLater b c → IsLater a c
later_twice a b c first then = record {
  topology = then.topology ∙ first.topology;
  node = then.node ∙ first.node;
  limit = then.limit ∙ first.limit;
  journal = further a.journal b.journal c.journal first.journal then.journal;
  outcomes = further a.outcomes b.outcomes c.outcomes first.outcomes then.outcomes;
  refusals = further a.refusals b.refusals c.refusals first.refusals then.refusals;
  backlog = (first.backlog.0 ++ then.backlog.0, first.backlog.1 ∙ ap (λ l. first.backlog.0 ++ l) then.backlog.1 ∙ sym (append_assoc first.backlog.0 then.backlog.0 c.backlog));
  rings = (then.rings.0 ∙ first.rings.0, then.rings.1 ∙ first.rings.1);
}

left_same : (d n : SeatValue) → HasSame d n → events_left n ≡ events_left d
left_same d n same = rw (same.limit, same.journal, same.backlog) refl

left_done : (event : ActorEvent) (d n : SeatValue) → HasDone event d n → length n.backlog ≤ length d.backlog → events_left n < events_left d
left_done event d n done most =
    let more : length n.journal ≡ length d.journal + 1 = rw (done.journal) (length-append d.journal (event ∷ [])) in
    omega (arith, more, done.limit, done.room, most)

one_off : (event : ActorEvent) (old new : List ActorEvent) → old ≡ event ∷ new → length new + 1 ≡ length old
one_off event old new is = rw is (omega arith)

-- the lists of seats

pub same_seats : (seats : List SeatValue) → AreLater seats seats
same_seats seats = record {
  count = refl;
  each = λ k b a at_b at_a. subst (λ (s : SeatValue). IsLater b s) (let is : b ≡ a = let both = sym at_b ∙ at_a in cc in is) (same_later b b (record { topology = refl; node = refl; limit = refl; journal = refl; outcomes = refl; accepted = refl; refusals = refl; backlog = refl; free = refl; rings = (refl, refl) }));
}

pub seats_twice : (start middle last : List SeatValue) → AreLater start middle → AreLater middle last → AreLater start last
seats_twice start middle last first then = record {
  count = then.count ∙ first.count;
  each = λ k b a at_b at_a.
      let lt : k < length start = slice_get_within start k b at_b in
      let in_middle : k < length middle = rw (first.count) lt in
      let m = get_or middle k b in
      let at_m : slice_get middle k ≡ Some m = slice_get-get_or middle k b in_middle in
      later_twice b m a (first.each k b m at_b at_m) (then.each k m a at_m at_a);
}

-- one seat took a turn
pub seat_later : (start now : List SeatValue) (k : ℕ) (d n : SeatValue) → AreLater start now → k < length now → d ≡ get_or now k d → IsLater d n → AreLater start (set now k n)
seat_later start now k d n later lt is one = record {
  count = length-set now k n ∙ later.count;
  each = λ j b a at_b at_a. elim (eqb_tells j k) [
    | inl same ↦
        let a_is : a ≡ n = set_here now k n a lt (subst (λ (i : ℕ). slice_get (set now k n) i ≡ Some a) same.1 at_a) in
        let at_d : slice_get now j ≡ Some d = ap (λ i. slice_get now i) same.1 ∙ here now k d lt is in
        rw a_is (later_twice b d n (later.each j b d at_b at_d) one)
    | inr away ↦ later.each j b a at_b (sym (set_away now k j n away.1) ∙ at_a)
  ];
}

left_set : (now : List SeatValue) (k : ℕ) (d n : SeatValue) → k < length now → d ≡ get_or now k d → all_left (set now k n) + events_left d ≡ all_left now + events_left n
left_set now k d n lt is =
    subst (λ (s : SeatValue). all_left (set now k n) + events_left s ≡ all_left now + events_left n) (sym is) (sum_by-set (λ (s : SeatValue). events_left s) now k n d lt)

unsent_set : (now : List SeatValue) (k : ℕ) (d n : SeatValue) → k < length now → d ≡ get_or now k d → all_unsent (set now k n) + unsent d ≡ all_unsent now + unsent n
unsent_set now k d n lt is =
    subst (λ (s : SeatValue). all_unsent (set now k n) + unsent s ≡ all_unsent now + unsent n) (sym is) (sum_by-set (λ (s : SeatValue). unsent s) now k n d lt)

-- what holds in a round, before the turn of the seat at a place
abbrev pub SoFar : Round → List SeatValue → List SeatValue → ℕ → Type 0
SoFar Quiet start now place =
    (all_left now ≡ all_left start) × (all_unsent now ≡ all_unsent start)
    × ((k : ℕ) (b a : SeatValue) → k < place → slice_get start k ≡ Some b → slice_get now k ≡ Some a → IsIdle b a)
SoFar Stirred start now place = (all_left now ≡ all_left start) × (all_unsent now < all_unsent start)
SoFar Worked start now place = all_left now < all_left start

-- this is what is left to do and unsent after one more turn, where it rested
module _ (start now : List SeatValue) (k : ℕ) (d n : SeatValue) (lt : k < length now) (is : d ≡ get_or now k d) where
  idle_next : IsIdle d n → (all_left (set now k n) ≡ all_left now) × (all_unsent (set now k n) ≡ all_unsent now)
  idle_next turn =
      let left = left_set now k d n lt is in
      let same = left_same d n turn.0.same in
      let sends = unsent_set now k d n lt is in
      (omega (arith, left, same), omega (arith, sends, turn.2))

  moved_next : HasRested d n × (unsent n < unsent d) → (all_left (set now k n) ≡ all_left now) × (all_unsent (set now k n) < all_unsent now)
  moved_next turn =
      let left = left_set now k d n lt is in
      let same = left_same d n turn.0.same in
      let sends = unsent_set now k d n lt is in
      (omega (arith, left, same), omega (arith, sends, turn.1))

  worked_next : events_left n < events_left d → all_left (set now k n) < all_left now
  worked_next less = let left = left_set now k d n lt is in omega (arith, left, less)

  most_left : (round : Round) → SoFar round start now k → all_left now ≤ all_left start
  most_left Quiet so_far = omega (arith, so_far.0)
  most_left Stirred so_far = omega (arith, so_far.0)
  most_left Worked so_far = omega (arith, so_far)

  quiet_more : slice_get now k ≡ slice_get start k → IsIdle d n
      → ((j : ℕ) (b a : SeatValue) → j < k → slice_get start j ≡ Some b → slice_get now j ≡ Some a → IsIdle b a)
      → (j : ℕ) (b a : SeatValue) → j < k + 1 → slice_get start j ≡ Some b → slice_get (set now k n) j ≡ Some a → IsIdle b a
  quiet_more same turn before j b a below at_b at_a = elim (eqb_tells j k) [
    | inl here_is ↦
        let a_is : a ≡ n = set_here now k n a lt (subst (λ (i : ℕ). slice_get (set now k n) i ≡ Some a) here_is.1 at_a) in
        let both : Some b ≡ Some d = sym at_b ∙ ap (λ i. slice_get start i) here_is.1 ∙ sym same ∙ here now k d lt is in
        let b_is : b ≡ d = cc in
        rw (a_is, b_is) turn
    | inr away ↦ before j b a (grind (arith, away.1, below)) at_b (sym (set_away now k j n away.1) ∙ at_a)
  ]

  worked_less : (round : Round) → SoFar round start now k → events_left n < events_left d → all_left (set now k n) < all_left start
  worked_less round so_far less = let most = most_left round so_far in let next = worked_next less in omega (arith, most, next)

  idle_turn : (round : Round) → slice_get now k ≡ slice_get start k → IsIdle d n → SoFar round start now k → SoFar round start (set now k n) (k + 1)
  idle_turn Quiet same turn so_far =
      let next = idle_next turn in
      (next.0 ∙ so_far.0, next.1 ∙ so_far.1, quiet_more same turn so_far.2)
  idle_turn Stirred same turn so_far = let next = idle_next turn in (next.0 ∙ so_far.0, omega (arith, next.1, so_far.1))
  idle_turn Worked same turn so_far = let next = idle_next turn in omega (arith, next.0, so_far)

  moved_turn : (round : Round) → HasRested d n × (unsent n < unsent d) → SoFar round start now k → SoFar (once_moved round) start (set now k n) (k + 1)
  moved_turn Quiet turn so_far = let next = moved_next turn in (next.0 ∙ so_far.0, omega (arith, next.1, so_far.1))
  moved_turn Stirred turn so_far = let next = moved_next turn in (next.0 ∙ so_far.0, omega (arith, next.1, so_far.1))
  moved_turn Worked turn so_far = let next = moved_next turn in omega (arith, next.0, so_far)

  pub one_turn : (refuses : Refuses) (round : Round) (turn : Turn) → slice_get now k ≡ slice_get start k → IsTurn refuses turn d n → SoFar round start now k → SoFar (with_turn round turn) start (set now k n) (k + 1)
  one_turn refuses round Idle same is_turn so_far = idle_turn round same is_turn so_far
  one_turn refuses round Moved same is_turn so_far = moved_turn round is_turn so_far
  one_turn refuses round Handled same is_turn so_far = worked_less round so_far (left_done _ d n is_turn.1 (rw (is_turn.2) (omega arith)))
  one_turn refuses round (Submitted number) same is_turn so_far =
      let off = one_off _ d.backlog n.backlog is_turn.2 in
      worked_less round so_far (left_done _ d n is_turn.1 (omega (arith, off)))
  one_turn refuses round Collected same is_turn so_far =
      let off = one_off _ d.backlog n.backlog is_turn.2 in
      worked_less round so_far (left_done _ d n is_turn.1 (omega (arith, off)))
  one_turn refuses round (Refused fault) same is_turn so_far =
      let off = one_off is_turn.off.event d.backlog n.backlog is_turn.off.first in
      let journal : length n.journal ≡ length d.journal = ap (λ (l : List ActorEvent). length l) is_turn.journal in
      worked_less round so_far (omega (arith, off, journal, is_turn.limit))

-- the seats that had no turn yet
pub others_wait : (start now : List SeatValue) (place : ℕ) (n : SeatValue) → ((k : ℕ) → place ≤ k → slice_get now k ≡ slice_get start k)
    → (k : ℕ) → place + 1 ≤ k → slice_get (set now place n) k ≡ slice_get start k
others_wait start now place n wait k above = set_away now place k n (λ is. absurd (omega (arith, is, above))) ∙ wait k (omega (arith, above))

pub round_done : (round : Round) (start now : List SeatValue) (place : ℕ) → AreLater start now → length now ≤ place → SoFar round start now place → IsRound round start now
round_done Quiet start now place later past so_far = record {
  count = later.count;
  each = λ k b a at_b at_a. so_far.2 k b a (let lt = slice_get_within now k a at_a in omega (arith, lt, past)) at_b at_a;
}
round_done Stirred start now place later past so_far = so_far
round_done Worked start now place later past so_far = so_far

pub all_resting : (start new : List SeatValue) → HasCome start new → All IsResting new
all_resting start new come =
    all_of IsResting new (λ k s lt at.
    let last = come.0 in
    let in_last : k < length last = rw (← come.2.count) lt in
    let b = get_or last k s in
    let turn = come.2.each k b s (slice_get-get_or last k s in_last) at in
    turn.0.resting)

pub as_much_left : (round : Round) (old new : List SeatValue) → round ≡ Stirred → IsRound round old new → all_left new ≡ all_left old
as_much_left Quiet old new is round = absurd cc
as_much_left Stirred old new is round = round.0
as_much_left Worked old new is round = absurd cc

-- ## A chain of turns

pub none_taken : (refuses : Refuses) (seats : List SeatValue) → HaveTaken refuses seats seats
none_taken refuses seats = ([], refl)

chained : (refuses : Refuses) (turns more : List Taken) (start middle last : List SeatValue) → AreTaken refuses turns start middle → AreTaken refuses more middle last
    → AreTaken refuses (turns ++ more) start last
chained refuses [] more start middle last first then = subst (λ (l : List SeatValue). AreTaken refuses more l last) first then
chained refuses (t ∷ turns) more start middle last first then = (first.0, chained refuses turns more (set start t.place t.after) middle last first.1 then)

pub taken_twice : (refuses : Refuses) (start middle last : List SeatValue) → HaveTaken refuses start middle → HaveTaken refuses middle last → HaveTaken refuses start last
taken_twice refuses start middle last first then = (first.0 ++ then.0, chained refuses first.0 then.0 start middle last first.1 then.1)

pub stopped_later : (refuses : Refuses) (fault : Fault) (start middle last : List SeatValue) → HaveTaken refuses start middle → HaveStopped refuses fault middle last
    → HaveStopped refuses fault start last
stopped_later refuses fault start middle last first then = (then.0, taken_twice refuses start middle then.0 first then.1, then.2)

-- one seat changed
one_later : (start : List SeatValue) (k : ℕ) (d n : SeatValue) → slice_get start k ≡ Some d → IsLater d n → AreLater start (set start k n)
one_later start k d n at one =
    let lt : k < length start = slice_get_within start k d at in
    let both : Some d ≡ Some (get_or start k d) = sym at ∙ slice_get-get_or start k d lt in
    let is : d ≡ get_or start k d = cc in
    seat_later start start k d n (same_seats start) lt is one

turns_later : (refuses : Refuses) (turns : List Taken) (start new : List SeatValue) → AreTaken refuses turns start new → AreLater start new
turns_later refuses [] start new is = subst (λ (l : List SeatValue). AreLater start l) (sym is) (same_seats start)
turns_later refuses (t ∷ turns) start new taken =
    seats_twice start (set start t.place t.after) new (one_later start t.place taken.0.before t.after taken.0.at (turn_later refuses t.turn taken.0.before t.after taken.0.turn))
    (turns_later refuses turns (set start t.place t.after) new taken.1)

pub taken_later : (refuses : Refuses) (start new : List SeatValue) → HaveTaken refuses start new → AreLater start new
taken_later refuses start new taken = turns_later refuses taken.0 start new taken.1

pub come_after : (refuses : Refuses) (start now new : List SeatValue) → HaveTaken refuses start now → HasCome now new → HasCome start new
come_after refuses start now new taken come = (come.0, seats_twice start now come.0 (taken_later refuses start now taken) come.1, come.2)

pub stopped_so : (refuses : Refuses) (fault : Fault) (start new : List SeatValue) → HaveStopped refuses fault start new → AreLater start new
stopped_so refuses fault start new stopped =
    let stop = stopped.2 in
    let last = one_later stopped.0 stop.place stop.before stop.after stop.at (same_later stop.before stop.after stop.same) in
    seats_twice start stopped.0 new (taken_later refuses start stopped.0 stopped.1) (subst (λ (l : List SeatValue). AreLater stopped.0 l) (sym stop.is) last)

module _ (refuses : Refuses) (start now : List SeatValue) (k : ℕ) (d n : SeatValue) (lt : k < length now) (is : d ≡ get_or now k d) (so_far : HaveTaken refuses start now) where
  pub taken_more : (turn : Turn) → IsTurn refuses turn d n → HasLooked turn d n → HaveTaken refuses start (set now k n)
  taken_more turn took looked =
      taken_twice refuses start now (set now k n) so_far (
        record { place = k; turn = turn; after = n } ∷ [],
        (record { before = d; at = here now k d lt is; turn = took; looked = looked }, refl),
      )

  pub stopped_here : (fault : Fault) → HasSame d n → CanRefuse refuses fault n → HaveStopped refuses fault start (set now k n)
  stopped_here fault same refused = (now, so_far, record { place = k; before = d; after = n; at = here now k d lt is; is = refl; same = same; refused = refused })

pub refused_at : (refuses : Refuses) (now : List SeatValue) (k : ℕ) (n : SeatValue) (fault : Fault) → k < length now → CanRefuse refuses fault n
    → OneCanRefuse refuses fault (set now k n)
refused_at refuses now k n fault lt refused = (k, n, set_at now k n lt, refused)
