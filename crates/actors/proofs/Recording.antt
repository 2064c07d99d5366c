-- A machine with its journal, after one event more.
use Rattle.std.proofs.Common.{◌≡◌, ◌∙◌, ℕ, ◌<◌, ◌^◌, Bool, List, [], ◌∷◌, ◌++◌, Option, Some, None, refl, sym, ap}
use Rattle.std.specs.Prelude.{◌==◌, ◌&&◌, min, slice_get, filter_map, option_to_list}
use Rattle.std.specs.List.{list_all}
use Rattle.std.specs.Option.{unwrap_or}
use Rattle.std.proofs.lemmas.List.{append-nil, append_assoc, length-append}
use Rattle.std.proofs.lemmas.List.Elements.{filter-append, filter_map-append}
use Rattle.messages.specs.declared.envelope.Envelope.{Envelope}
use Rattle.messages.specs.declared.outcome.Outcome.{Outcome}
use Rattle.messages.specs.declared.event.ActorEvent.{ActorEvent}
use Rattle.messages.specs.declared.event.ActorEvent.TheVariants.{Submit, Handle, Collect}
use Rattle.messages.specs.Topology.{TopologyValue}
use Rattle.actors.specs.Journals.{op_in, submissions, number_after, sends_to}
use Rattle.actors.specs.Shown.{clock_with, clock_from}
use Rattle.actors.proofs.Clocks.{clock_more}
use Rattle.actors.proofs.Showing.{shown_more}
use Rattle.actors.specs.CameFrom.{CameFrom}
use Rattle.actors.specs.Machines.{IsPast, GoesBy}

pub counted : (journal : List ActorEvent) (event : ActorEvent) → submissions (journal ++ event ∷ []) ≡ unwrap_or (number_after journal event) (submissions journal)
counted journal (Submit o) = rw (filter_map-append op_in journal (Submit o ∷ [])) (length-append (filter_map op_in journal) (o ∷ []))
counted journal (Handle e) = rw (filter_map-append op_in journal (Handle e ∷ []), append-nil) refl
counted journal (Collect time) = rw (filter_map-append op_in journal (Collect time ∷ []), append-nil) refl

-- what stands before nothing is what came before it
pub nothing_more : (sent fresh : List Envelope) → fresh ≡ [] → sent ≡ sent ++ fresh
nothing_more sent fresh none = sym (append-nil sent) ∙ ap (λ es. sent ++ es) (sym none)

-- nothing is left of the second list
pub all_in_first : (a b c d : List Envelope) → a ++ b ≡ c ++ d → b ≡ [] → a ≡ c ++ d
all_in_first a b c d same none = sym (append-nil a) ∙ ap (λ es. a ++ es) (sym none) ∙ same

-- what goes by its nodes and an outbox, where the outbox gets more
pub goes_more : (before : ℕ → List Envelope) (outbox fresh now sent : List Envelope) → GoesBy before outbox sent → now ≡ outbox ++ fresh → GoesBy before now (sent ++ fresh)
goes_more before outbox fresh now sent goes is = λ to.
    filter-append (λ (e : Envelope). e.to == to) sent fresh
    ∙ ap (λ es. es ++ sends_to to fresh) (goes to)
    ∙ append_assoc (before to) (sends_to to outbox) (sends_to to fresh)
    ∙ ap (λ es. before to ++ es) (sym (filter-append (λ (e : Envelope). e.to == to) outbox fresh))
    ∙ ap (λ es. before to ++ sends_to to es) (sym is)

pub past_more : {M : Type 0} (came_from : CameFrom M) (untaken : M → Option (ℕ × Outcome)) (top : TopologyValue) (node : ℕ)
    (machine stepped taken : M) (journal next : List ActorEvent) (event : ActorEvent) (outcomes told : List (ℕ × Outcome)) (sent fresh : List Envelope) (count counts clock time : ℕ)
    (timed now : Bool) (number : Option ℕ)
    → IsPast came_from untaken top node machine journal outcomes sent count clock timed
    → came_from top node (journal ++ event ∷ []) (sent ++ fresh) (outcomes ++ option_to_list (untaken stepped)) taken
    → untaken taken ≡ None → next ≡ journal ++ event ∷ [] → told ≡ outcomes ++ option_to_list (untaken stepped)
    → number ≡ number_after journal event → counts ≡ unwrap_or number count
    → ((c : ℕ) → clock ≡ min c (2 ^ 48) → time ≡ min (clock_with c event) (2 ^ 48))
    → now ≡ (timed && list_all (λ (e : Envelope). e.time == time) fresh) → ((e : Envelope) → slice_get fresh 0 ≡ Some e → e.time < 2 ^ 48)
    → IsPast came_from untaken top node taken next told (sent ++ fresh) counts time now
past_more came_from untaken top node machine stepped taken journal next event outcomes told sent fresh count counts clock time timed now number was came none is told_is numbered counts_is ticks now_is below = record {
  came = all_came;
  taken = none;
  accepted = rw (is, counted journal event, counts_is, numbered, was.accepted) refl;
  clocked = clocked;
  shown = shown_more came_from top node journal next event fresh sent timed now time taken told was.shown is all_came clocked now_is below;
}
  where
    all_came : came_from top node next (sent ++ fresh) told taken
    all_came = rw (is, told_is) came

    clocked : time ≡ min (clock_from 0 next) (2 ^ 48)
    clocked = ticks (clock_from 0 journal) was.clocked ∙ ap (λ c. min c (2 ^ 48)) (sym (clock_more 0 journal event) ∙ ap (clock_from 0) (sym is))
