-- A turn of a seat, once its sends moved on and it looked at its rings.
use Rattle.std.proofs.Common.{◌≡◌, ◌∙◌, ◌+◌, ◌<◌, ◌⊎◌, List, [], ◌∷◌, ◌++◌, length, false, refl, sym, ap, subst, arith}
use Rattle.std.specs.Prelude.{All, Result, Ok, Err, IfOk}
use Rattle.logical_time.specs.declared.fault.Fault.{Fault}
use Rattle.messages.specs.declared.event.ActorEvent.{ActorEvent}
use Rattle.actors.specs.Journals.{submissions, IsBeginning}
use Rattle.actors.specs.Machines.{Refuses}
use Rattle.actors.specs.Seats.{SeatValue, ends_of, sources_of}
use Rattle.actors.specs.Resting.{unsent, waiting_on, IsFlushed, IsSorted, HasNoEnvelope}
use Rattle.actors.specs.Turns.{HasSame, HasDone, HasRested, HasTakenOff, HasFoundNone, HasLooked, IsTurn, IsWork}
use Rattle.actors.specs.declared.turn.Turn.{Turn}
use Rattle.actors.specs.declared.turn.Turn.TheVariants.{Idle, Moved, Handled, Submitted, Collected, Refused}

module _ (old a b : SeatValue) (flushed : a ≡ record old { outgoing = a.outgoing; outbox = a.outbox })
    (looked : b ≡ record a { incoming = b.incoming; next = b.next; held = b.held })
    (ends : ends_of a.outgoing ≡ ends_of old.outgoing) (sources : sources_of b.incoming ≡ sources_of a.incoming) where
  pub same : HasSame old b
  same = record {
    topology = ap (λ (s : SeatValue). s.topology) looked ∙ ap (λ (s : SeatValue). s.topology) flushed;
    node = ap (λ (s : SeatValue). s.node) looked ∙ ap (λ (s : SeatValue). s.node) flushed;
    limit = ap (λ (s : SeatValue). s.limit) looked ∙ ap (λ (s : SeatValue). s.limit) flushed;
    journal = ap (λ (s : SeatValue). s.journal) looked ∙ ap (λ (s : SeatValue). s.journal) flushed;
    outcomes = ap (λ (s : SeatValue). s.outcomes) looked ∙ ap (λ (s : SeatValue). s.outcomes) flushed;
    accepted = ap (λ (s : SeatValue). s.accepted) looked ∙ ap (λ (s : SeatValue). s.accepted) flushed;
    refusals = ap (λ (s : SeatValue). s.refusals) looked ∙ ap (λ (s : SeatValue). s.refusals) flushed;
    backlog = ap (λ (s : SeatValue). s.backlog) looked ∙ ap (λ (s : SeatValue). s.backlog) flushed;
    free = ap (λ (s : SeatValue). s.free) looked ∙ ap (λ (s : SeatValue). s.free) flushed;
    rings = (ap (λ (s : SeatValue). ends_of s.outgoing) looked ∙ ends, sources ∙ ap (λ (s : SeatValue). sources_of s.incoming) flushed);
  }

  pub ways : b.outgoing ≡ a.outgoing
  ways = ap (λ (s : SeatValue). s.outgoing) looked

  pub box : b.outbox ≡ a.outbox
  box = ap (λ (s : SeatValue). s.outbox) looked

  pub waits : unsent b ≡ unsent a
  waits = ap (λ ls. waiting_on ls + length b.outbox) ways ∙ ap (λ es. waiting_on a.outgoing + length es) box

  pub fewer : unsent a < unsent old → unsent b < unsent old
  fewer lt = let w = waits in omega (arith, lt, w)

  pub rested : IsSorted a.outgoing a.outbox → All IsFlushed a.outgoing → HasNoEnvelope b → (b.backlog ≡ []) ⊎ (b.free ≡ false) → HasRested old b
  rested sorted flushed none nothing = record {
    same = same;
    resting = record {
      sorted = subst (λ ls. IsSorted ls b.outbox) (sym ways) (subst (λ es. IsSorted a.outgoing es) (sym box) sorted);
      flushed = subst (λ ls. All IsFlushed ls) (sym ways) flushed;
      none = none;
      nothing = nothing;
    };
  }

  done : (event : ActorEvent) (n : SeatValue) → HasDone event b n → HasDone event old n
  done event n d = record {
    room = let r = d.room in let l = same.limit in let j = ap (λ (es : List ActorEvent). length es) same.journal in omega (arith, r, l, j);
    journal = d.journal ∙ ap (λ es. es ++ event ∷ []) same.journal;
    outcomes = subst (λ os. IsBeginning os n.outcomes) same.outcomes d.outcomes;
    refusals = d.refusals ∙ same.refusals;
    topology = d.topology ∙ same.topology;
    node = d.node ∙ same.node;
    limit = d.limit ∙ same.limit;
    rings = (d.rings.0 ∙ same.rings.0, d.rings.1 ∙ same.rings.1);
  }

  off : (refuses : Refuses) (fault : Fault) (n : SeatValue) → HasTakenOff refuses fault b n → HasTakenOff refuses fault old n
  off refuses fault n d = record {
    event = d.event;
    first = sym same.backlog ∙ d.first;
    room = let r = d.room in let l = same.limit in let j = ap (λ (es : List ActorEvent). length es) same.journal in omega (arith, r, l, j);
    refused =
        subst (λ t. refuses t old.node old.journal d.event fault) same.topology
        (subst (λ m. refuses b.topology m old.journal d.event fault) same.node (subst (λ es. refuses b.topology b.node es d.event fault) same.journal d.refused));
  }

  -- what it then did of its backlog, it did in this turn
  pub worked_on : (refuses : Refuses) (n : SeatValue) (t : Turn) → IsWork t → IsTurn refuses t b n → IsTurn refuses t old n
  worked_on refuses n Idle work is = absurd work
  worked_on refuses n Moved work is = absurd work
  worked_on refuses n Handled work is = absurd work
  worked_on refuses n (Submitted number) work (o, did, first, numbered, free) = (o, done _ n did, sym same.backlog ∙ first, numbered, sym same.free ∙ free)
  worked_on refuses n Collected work (time, did, first, free) = (time, done _ n did, sym same.backlog ∙ first, sym same.free ∙ free)
  worked_on refuses n (Refused fault) work d = record {
    journal = d.journal ∙ same.journal;
    outcomes = d.outcomes ∙ same.outcomes;
    off = off refuses fault n d.off;
    refusals = d.refusals ∙ ap (λ rs. rs ++ (submissions b.journal, fault) ∷ []) same.refusals ∙ ap (λ es. old.refusals ++ (submissions es, fault) ∷ []) same.journal;
    request = d.request;
    topology = d.topology ∙ same.topology;
    node = d.node ∙ same.node;
    limit = d.limit ∙ same.limit;
    rings = (d.rings.0 ∙ same.rings.0, d.rings.1 ∙ same.rings.1);
  }

pub each_worked : {X : Type 0} (P Q : Turn → Type 0) (W : Turn → Type 0) (r : Result Turn X) → ((t : Turn) → W t → P t → Q t) → IfOk r W → IfOk r P → IfOk r Q
each_worked P Q W (Ok t) f w p = f t w p
each_worked P Q W (Err x) f w p = tt

-- where no envelope was there, an item of the backlog was next
pub worked_looked : (t : Turn) (old new : SeatValue) → HasFoundNone old new → IsWork t → HasLooked t old new
worked_looked Idle old new found work = absurd work
worked_looked Moved old new found work = absurd work
worked_looked Handled old new found work = absurd work
worked_looked (Submitted number) old new found work = found
worked_looked Collected old new found work = found
worked_looked (Refused fault) old new found work = found

pub none_left : (es : List ActorEvent) → length es ≡ 0 → es ≡ []
none_left [] none = refl
none_left (x ∷ es) none = absurd (omega (arith, none))
