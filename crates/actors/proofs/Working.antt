-- What a turn answers, by what it did.
use Rattle.std.proofs.Common.{◌≡◌, ℕ, ◌+◌, List, [], ◌∷◌, ◌++◌, Option, Some, ap, sym, ◌∙◌, true}
use Rattle.std.specs.Option.{unwrap_or}
use Rattle.messages.specs.declared.event.ActorEvent.{ActorEvent}
use Rattle.messages.specs.declared.op.Op.{Op}
use Rattle.messages.specs.declared.event.ActorEvent.TheVariants.{Submit, Handle, Collect}
use Rattle.actors.specs.Journals.{IsOwn, submissions, number_after}
use Rattle.actors.specs.Machines.{Refuses}
use Rattle.actors.specs.Seats.{SeatValue}
use Rattle.actors.specs.Turns.{IsTurn, HasDone, turn_of}
use Rattle.actors.specs.declared.turn.Turn.{Turn}
use Rattle.actors.specs.declared.turn.Turn.TheVariants.{Submitted, Collected}
use Rattle.actors.proofs.Recording.{counted}

pub submitted : (journal next : List ActorEvent) (o : Op) (n : ℕ) → Some n ≡ Some (submissions journal + 1) → next ≡ journal ++ Submit o ∷ [] → n ≡ submissions next
submitted journal next o n is more =
    let same : n ≡ submissions journal + 1 = ap (λ m. unwrap_or m 0) is in
    same ∙ sym (ap (λ j. submissions j) more ∙ counted journal (Submit o))

pub worked : (refuses : Refuses) (event : ActorEvent) (number : Option ℕ) (t : Turn) (d n : SeatValue) → t ≡ turn_of number → number ≡ number_after d.journal event → IsOwn event → HasDone event d n
    → d.backlog ≡ event ∷ n.backlog → d.free ≡ true → IsTurn refuses t d n
worked refuses (Submit o) number t d n is numbered own done off free =
    let turn : t ≡ Submitted (submissions d.journal + 1) = is ∙ ap turn_of numbered in
    rw turn (o, done, off, sym (ap (λ j. submissions j) done.journal ∙ counted d.journal (Submit o)), free)
worked refuses (Handle e) number t d n is numbered own done off free = absurd cc
worked refuses (Collect time) number t d n is numbered own done off free =
    let turn : t ≡ Collected = is ∙ ap turn_of numbered in
    rw turn (time, done, off, free)
