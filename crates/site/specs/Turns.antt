-- What the calls of a site do.
use Rattle.std.specs.Prelude.{◌≡◌, ◌+◌, ◌^◌, ◌⊎◌, ◌==◌, ◌&&◌, ℕ, Bool, true, false, min, List, [], ◌∷◌, ◌++◌, Option, Some, None}
use Rattle.std.specs.List.{list_all}
use Rattle.logical_time.specs.declared.fault.Fault.{Fault}
use Rattle.logical_time.specs.declared.fault.Fault.TheVariants.{Memory, StrangerEnd}
use Rattle.messages.specs.declared.envelope.Envelope.{Envelope}
use Rattle.messages.specs.declared.outcome.Outcome.{Outcome}
use Rattle.messages.specs.declared.op.Op.{Op}
use Rattle.messages.specs.declared.event.ActorEvent.{ActorEvent}
use Rattle.messages.specs.declared.event.ActorEvent.TheVariants.{Submit, Handle}
use Rattle.actors.specs.Journals.{submissions}
use Rattle.actors.specs.Shown.{clock_from}
use Rattle.actors.specs.Machines.{Refuses}
use Rattle.site.specs.declared.turn.Turn.{Turn}
use Rattle.site.specs.declared.turn.Turn.TheVariants.{Idle, Handled, Ended}
use Rattle.site.specs.declared.turn.Submitted.{Submitted}
use Rattle.site.specs.Sites.{SiteValue}
use Rattle.site.specs.Story.{Story, Happening, Did, Given, journal, arrivals, handled, departures, given}

-- ## Events

-- the site after one thing more
abbrev pub goes_on : SiteValue → Happening → SiteValue
goes_on site h = record site { story = site.story ++ h ∷ [] }

-- the clock of an actor after these events, by them alone, and 2^48 where that is above
abbrev pub clock_by : List ActorEvent → ℕ
clock_by events = min (clock_from 0 events) (2 ^ 48)

-- the clock of the actor with a node
abbrev pub clock_in : Story → ℕ → ℕ
clock_in s node = clock_by (journal s node)

-- whether envelopes are from the actor with a node, and carry its clock after this journal
abbrev pub are_of : ℕ → List ActorEvent → List Envelope → Bool
are_of node events sends =
    list_all (λ (e : Envelope). e.from == node) sends && list_all (λ (e : Envelope). e.time == clock_by events) sends

-- what the event sent is of its actor
abbrev pub is_sound : Story → ℕ → ActorEvent → List Envelope → Bool
is_sound s node event sends = are_of node (journal s node ++ event ∷ []) sends

-- the actor with a node did an event, which ended this: the story goes on with that, and with what it sent, which is the actor's
abbrev pub HasDone : SiteValue → ℕ → ActorEvent → Option (ℕ × Outcome) → SiteValue → Type 0
HasDone old node event ended new =
    (sends : List Envelope) × (is_sound old.story node event sends ≡ true) × (new ≡ goes_on old (Did node event sends ended))

-- the actor did the event, and what it sent isn't its own: the story goes on with that, and the site isn't sound
abbrev pub HasBroken : SiteValue → ℕ → ActorEvent → SiteValue → Type 0
HasBroken old node event new =
    (sends : List Envelope) × (ended : Option (ℕ × Outcome)) × (is_sound old.story node event sends ≡ false)
    × (new ≡ record (goes_on old (Did node event sends ended)) { sound = false })

-- Why an event isn't done: memory is refused, or the actor's machine refuses it.
abbrev pub IsCause : Refuses → SiteValue → ℕ → ActorEvent → Fault → Type 0
IsCause refuses site node event fault = (fault ≡ Memory) ⊎ refuses site.top node (journal site.story node) event fault

-- An event is refused: the site stays, and it isn't sound, or that is why; or the event broke it.
abbrev pub IsRefused : Refuses → SiteValue → ℕ → ActorEvent → Fault → SiteValue → Type 0
IsRefused refuses old node event fault new =
    ((new ≡ old) × (((old.sound ≡ false) × (fault ≡ StrangerEnd)) ⊎ IsCause refuses old node event fault))
    ⊎ ((old.sound ≡ true) × ((fault ≡ StrangerEnd) × HasBroken old node event new))

-- ## Calls

-- an operation was submitted: its number is one more than those that its session submitted before
abbrev pub HasSubmitted : SiteValue → ℕ → Op → Submitted → SiteValue → Type 0
HasSubmitted old node op r new = HasDone old node (Submit op) r.ended new × (r.number ≡ submissions (journal old.story node) + 1)

-- the envelope waits first: it is the next that came and wasn't handled
abbrev pub IsFirst : SiteValue → Envelope → Type 0
IsFirst site e = (rest : List Envelope) × (arrivals site.top site.dc site.story ≡ handled site.story ++ e ∷ rest)

-- the envelope that waited first was handled by the actor with this node, for which it is, and ended this
abbrev pub HasHandled : SiteValue → ℕ → Option (ℕ × Outcome) → SiteValue → Type 0
HasHandled old node ended new = (e : Envelope) × IsFirst old e × (e.to ≡ node) × HasDone old node (Handle e) ended new

-- what a turn answers whose event ended this
abbrev pub turn_of : ℕ → Option (ℕ × Outcome) → Turn
turn_of session None = Handled
turn_of session (Some p) = Ended session p.0 p.1

-- What a turn did: where nothing waited, nothing; else the first envelope was handled, and what it ended is told.
abbrev pub HasTurned : SiteValue → Turn → SiteValue → Type 0
HasTurned old Idle new = (new ≡ old) × (handled old.story ≡ arrivals old.top old.dc old.story)
HasTurned old Handled new = (node : ℕ) × HasHandled old node None new
HasTurned old (Ended session number outcome) new = HasHandled old session (Some (number, outcome)) new

-- A turn is refused: for memory, the site stays; or the first envelope isn't handled, and that is why.
abbrev pub IsTurnRefused : Refuses → SiteValue → Fault → SiteValue → Type 0
IsTurnRefused refuses old fault new =
    ((new ≡ old) × (((old.sound ≡ false) × (fault ≡ StrangerEnd)) ⊎ (fault ≡ Memory)))
    ⊎ ((e : Envelope) × IsFirst old e × IsRefused refuses old e.to (Handle e) fault new)

-- What is given next to the way to another site: what was sent there first and wasn't given; none where all was.
abbrev pub HasGiven : SiteValue → Option Envelope → SiteValue → Type 0
HasGiven old None new = (new ≡ old) × (given old.story ≡ departures old.top old.dc old.story)
HasGiven old (Some e) new =
    (rest : List Envelope) × (departures old.top old.dc old.story ≡ given old.story ++ e ∷ rest) × (new ≡ goes_on old (Given e))
