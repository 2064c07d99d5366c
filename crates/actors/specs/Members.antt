-- When a machine without its journal has a past.
use Rattle.std.specs.Prelude.{ℕ, List, ◌++◌, [], ◌∷◌, Option, option_to_list}
use Rattle.messages.specs.declared.envelope.Envelope.{Envelope}
use Rattle.messages.specs.declared.outcome.Outcome.{Outcome}
use Rattle.messages.specs.declared.event.ActorEvent.{ActorEvent}
use Rattle.messages.specs.Topology.{TopologyValue}
use Rattle.actors.specs.CameFrom.{CameFrom}
use Rattle.actors.specs.Machines.{IsPast}
use Rattle.actors.specs.declared.member.Member.{Member}

-- The machine came from this journal, whose events gave these outcomes and sent these envelopes, in order; and the member tells whether each
-- of these carries the clock of its event.
abbrev pub HasPast : {M : Type 0} → CameFrom M → (M → Option (ℕ × Outcome)) → TopologyValue → List ActorEvent → List (ℕ × Outcome) → List Envelope → Member M → Type 0
HasPast came_from untaken top journal outcomes sent m =
    IsPast came_from untaken top m.node m.machine journal outcomes sent m.accepted m.clock m.timed

-- whatever past the one has, the other has it with this event, which ended that and sent these
abbrev pub GoesOn : {M : Type 0} → CameFrom M → (M → Option (ℕ × Outcome)) → ActorEvent → Option (ℕ × Outcome) → List Envelope → Member M → Member M → Type 0
GoesOn came_from untaken event ended sends old new =
    (top : TopologyValue) (journal : List ActorEvent) (outcomes : List (ℕ × Outcome)) (sent : List Envelope) → HasPast came_from untaken top journal outcomes sent old
    → HasPast came_from untaken top (journal ++ event ∷ []) (outcomes ++ option_to_list ended) (sent ++ sends) new

-- whatever past the one has, the other has it too
abbrev pub HasSamePast : {M : Type 0} → CameFrom M → (M → Option (ℕ × Outcome)) → Member M → Member M → Type 0
HasSamePast came_from untaken old new =
    (top : TopologyValue) (journal : List ActorEvent) (outcomes : List (ℕ × Outcome)) (sent : List Envelope) → HasPast came_from untaken top journal outcomes sent old
    → HasPast came_from untaken top journal outcomes sent new
