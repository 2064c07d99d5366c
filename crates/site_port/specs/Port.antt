-- The sessions of a site, as what the connections at places ask.
use Rattle.std.specs.Prelude.{◌≡◌, ◌⊎◌, ℕ, ◌+◌, Bool, true, false, List, ◌∷◌, ◌++◌, All, filter, map, length, slice_get, slice_set, Option, Some, None, IsSome, option_to_list, Result, Ok, Err, Contains}
use Rattle.std.specs.List.{range_with_len}
use Rattle.logical_time.specs.declared.fault.Fault.{Fault}
use Rattle.logical_time.specs.declared.fault.Fault.TheVariants.{Busy, Memory, Behind, StrangerEnd}
use Rattle.messages.specs.declared.envelope.Envelope.{Envelope}
use Rattle.messages.specs.declared.op.Op.{Op}
use Rattle.messages.specs.declared.op.Op.TheVariants.{Batch, Read, Move}
use Rattle.messages.specs.declared.outcome.Outcome.{Outcome}
use Rattle.messages.specs.declared.event.ActorEvent.TheVariants.{Submit}
use Rattle.messages.specs.Topology.{TopologyValue, session_node}
use Rattle.wire.specs.Replies.{Reply}
use Rattle.actors.specs.Journals.{submissions}
use Rattle.actors.specs.Machines.{Refuses}
use Rattle.site.specs.Story.{Story, Happening, Did, Heard, Given, is_here, journal, outcomes}
use Rattle.site.specs.Sites.{SiteValue}
use Rattle.site.specs.Turns.{goes_on, IsRefused}
use Rattle.site.specs.Steps.{steps}
use Rattle.durable_site.specs.Kept.{DurableSiteValue, is_kept}
use Rattle.durable_site.specs.declared.identity.Identity.{Identity}
use Rattle.durable_site.specs.Logged.{whose_of}
use Rattle.durable_site.specs.Settled.{SettlesLog}
use Rattle.site_port.specs.declared.waiting.Late.{Late}
use Rattle.site_port.specs.declared.waiting.Waiting.{Waiting}
use Rattle.site.specs.Ends.{op_at, HasEnded}
use Rattle.site_port.specs.Ends.{end_by, GoesOnWith, is_awaited, AreTold, HasTurns, HasStopped}

-- ## What it is

-- The sessions of the site of a data centre, by their nodes: the connection at a place asks as the session of that index.
abbrev pub sessions_of : TopologyValue → ℕ → List ℕ
sessions_of top dc = filter (is_here top dc) (map (session_node top) (range_with_len 0 (length top.homes)))

pub record PortValue : Type 0 where
  pub site : SiteValue
  -- for each place what its session submitted and wasn't answered yet
  pub waiting : List (Option Waiting)
  -- the ends of operations that nobody was told yet
  pub late : List Late
  -- whether batches are refused, since too much waits for another site
  pub behind : Bool

-- The sessions of a site, and what is kept of it for good.
pub record SessionsValue (D : Type 0) : Type 0 where
  pub site : DurableSiteValue D
  pub waiting : List (Option Waiting)
  pub late : List Late
  pub behind : Bool

-- these, but for what is kept
abbrev pub port_of : {D : Type 0} → SessionsValue D → PortValue
port_of p = record { site = p.site.site; waiting = p.waiting; late = p.late; behind = p.behind }

-- what is kept of them for good, and whose it is
abbrev pub kept_of : {D : Type 0} → SessionsValue D → Option (ℕ × D) × Identity
kept_of p = (is_kept p.site, p.site.identity)

-- it stays
abbrev pub StaysKept : {D : Type 0} → DurableSiteValue D → DurableSiteValue D → Type 0
StaysKept old new = (is_kept new ≡ is_kept old) × (new.identity ≡ old.identity)

-- They settle: nothing is asked, and the site's log, if there is one, keeps all its steps for good.
abbrev pub Settles : {D : Type 0} → (D → Option (List ℕ)) → (D → List ℕ → Type 0) → (D → Bool) → (D → ℕ) → (D → ℕ → List ℕ → Type 0) → SessionsValue D → Result (Unit {0}) Fault → SessionsValue D → Type 0
Settles seen may_leave failed moment left_since old went new =
    SettlesLog seen may_leave failed moment left_since (whose_of old.site.identity) (steps old.site.site.story) (is_kept old.site) went (is_kept new.site) × (new.site.identity ≡ old.site.identity) × (port_of new ≡ port_of old)

-- ## A request where nothing is open

abbrev pub is_batch : Op → Bool
is_batch (Batch b) = true
is_batch (Read r) = false
is_batch (Move dc) = false

-- Nothing is submitted: batches are refused, or the site refuses it, or memory is refused before.
abbrev pub IsDeclined : Refuses → ℕ → PortValue → Op → Fault → PortValue → Type 0
IsDeclined refuses node old o fault new =
    ((old.behind ≡ true) × (is_batch o ≡ true) × (fault ≡ Behind) × (new ≡ old))
    ⊎ (((fault ≡ Memory) × (new ≡ old))
    ⊎ ((site : SiteValue) × IsRefused refuses old.site node (Submit o) fault site × (new ≡ record old { site = site })))

-- How a request is answered whose operation got this number, by what was told of it: with its outcome; or it stays open at its
-- place, and is answered with Busy where nothing more is to be done here, or with the fault of the site.
abbrev pub IsAnswer : ℕ → ℕ → Op → List (Option Waiting) → Result (Option Outcome) Fault → Reply → List (Option Waiting) → Type 0
IsAnswer place number o old (Ok (Some outcome)) answer new = (answer ≡ Ok outcome) × (new ≡ old)
IsAnswer place number o old (Ok None) answer new = (answer ≡ Err Busy) × (new ≡ slice_set old place (Some (record { number = number; op = Some o })))
IsAnswer place number o old (Err fault) answer new = (answer ≡ Err fault) × (new ≡ slice_set old place (Some (record { number = number; op = Some o })))

-- the operation was submitted, as this one of the session, and what that ended is kept, or told
pub record HasSubmittedAs (node : ℕ) (old : SiteValue) (o : Op) (number : ℕ) (late : List Late) (told : Option Outcome) (new : SiteValue) (kept : List Late) : Type 0 where
  pub numbered : number ≡ submissions (journal old.story node) + 1
  pub sends : List Envelope
  pub ended : Option (ℕ × Outcome)
  pub went : new ≡ goes_on old (Did node (Submit o) sends ended)
  pub is_told : AreTold (Some (node, number)) (option_to_list (end_by node ended)) late told kept

-- The operation is submitted, and where that doesn't end it at once, envelopes are handled; of what ended this is told, and that is
-- kept; or a turn is refused.
abbrev pub HasBegun : Refuses → ℕ → SiteValue → Op → ℕ → List Late → Result (Option Outcome) Fault → SiteValue → List Late → Type 0
HasBegun refuses node old o number late (Ok told) new kept =
    (IsSome told × HasSubmittedAs node old o number late told new kept)
    ⊎ ((between : SiteValue) × (ends : List Late) × HasSubmittedAs node old o number late None between ends × HasTurns (Some (node, number)) 1000000 between ends told new kept)
HasBegun refuses node old o number late (Err fault) new kept =
    (between : SiteValue) × (ends : List Late) × HasSubmittedAs node old o number late None between ends × HasStopped refuses (Some (node, number)) between ends fault new kept

-- it began so, and is answered so
pub record IsTaken (refuses : Refuses) (place node : ℕ) (old : PortValue) (o : Op) (answer : Reply) (new : PortValue) : Type 0 where
  pub number : ℕ
  pub told : Result (Option Outcome) Fault
  pub begun : HasBegun refuses node old.site o number old.late told new.site new.late
  pub answered : IsAnswer place number o old.waiting told answer new.waiting
  pub still : new.behind ≡ old.behind

abbrev pub Asks : Refuses → ℕ → ℕ → PortValue → Op → Reply → PortValue → Type 0
Asks refuses place node old o (Ok outcome) new = IsTaken refuses place node old o (Ok outcome) new
Asks refuses place node old o (Err fault) new = IsDeclined refuses node old o fault new ⊎ IsTaken refuses place node old o (Err fault) new

-- ## A request where an operation is open

-- The end of an operation was taken from among these; or it isn't there, and they stay.
abbrev pub HasTaken : ℕ → ℕ → List Late → Option Outcome → List Late → Type 0
HasTaken node number old None new = All (λ l. is_awaited (Some (node, number)) l ≡ false) old × (new ≡ old)
HasTaken node number old (Some outcome) new =
    (before : List Late) × (after : List Late) × (old ≡ before ++ record { session = node; number = number; outcome = outcome } ∷ after) × (new ≡ before ++ after)

-- The operation is still open: Busy. Or it has ended: who asked for it, and asks for the same again, is told so; who asks for another, or comes
-- behind whoever asked, is served anew.
abbrev pub AsksAgain : Refuses → ℕ → ℕ → PortValue → Waiting → Op → Reply → PortValue → Type 0
AsksAgain refuses place node old w o answer new =
    (HasTaken node w.number old.late None old.late × (answer ≡ Err Busy) × (new ≡ old))
    ⊎ ((outcome : Outcome) × (late : List Late) × HasTaken node w.number old.late (Some outcome) late
    × (((w.op ≡ Some o) × (answer ≡ Ok outcome) × (new ≡ record old { waiting = slice_set old.waiting place None; late = late }))
    ⊎ (((w.op ≡ Some o) → ⊥) × Asks refuses place node (record old { waiting = slice_set old.waiting place None; late = late }) o answer new)))

-- ## A step

-- what the connection at a place asks of its session, by what stands open there
abbrev pub AsksAt : Refuses → ℕ → ℕ → PortValue → Op → Reply → PortValue → Type 0
AsksAt refuses place node old o answer new =
    ((slice_get old.waiting place ≡ Some None) × Asks refuses place node old o answer new)
    ⊎ ((w : Waiting) × (slice_get old.waiting place ≡ Some (Some w)) × AsksAgain refuses place node old w o answer new)

-- past the last session each request is refused with Busy; where the site isn't sound, with `StrangerEnd`
abbrev pub Serves : Refuses → ℕ → PortValue → Op → Reply → PortValue → Type 0
Serves refuses place old o answer new =
    ((slice_get (sessions_of old.site.top old.site.dc) place ≡ None) × (answer ≡ Err Busy) × (new ≡ old))
    ⊎ (((old.site.sound ≡ false) × (answer ≡ Err StrangerEnd) × (new ≡ old))
    ⊎ ((node : ℕ) × (slice_get (sessions_of old.site.top old.site.dc) place ≡ Some node) × AsksAt refuses place node old o answer new))

-- an outcome is that of an operation that the place's session submitted, and it was this one; and the site is sound
abbrev pub IsItsEnd : ℕ → PortValue → Op → Reply → Type 0
IsItsEnd place p o (Ok outcome) = (node : ℕ) × (number : ℕ) × (slice_get (sessions_of p.site.top p.site.dc) place ≡ Some node) × HasEnded p.site.story node number o outcome × (p.site.sound ≡ true)
IsItsEnd place p o (Err fault) = Unit {0}

-- an actor did an event
abbrev pub IsDoing : Happening → Type 0
IsDoing (Did node x sends ended) = Unit {0}
IsDoing (Heard from e) = ⊥
IsDoing (Given e) = ⊥

-- A step of the port: the request is answered so, an outcome is the end of what was asked, and the site's story only went on.
pub record IsStep (refuses : Refuses) (place : ℕ) (old : PortValue) (o : Op) (answer : Reply) (new : PortValue) : Type 0 where
  pub serves : Serves refuses place old o answer new
  pub ends : IsItsEnd place new o answer
  pub on : (happened : List Happening) × All IsDoing happened × GoesOnWith old.site happened new.site

-- ## Who leaves

-- what is open, where who asked for it is gone
abbrev pub unasked : Option Waiting → Option Waiting
unasked None = None
unasked (Some w) = Some (record { number = w.number; op = None })

-- Who stood at these places is gone, and what is open there is nobody's; at all others it stays.
abbrev pub AreLeft : List ℕ → List (Option Waiting) → List (Option Waiting) → Type 0
AreLeft places old new =
    (length new ≡ length old) × ((k : ℕ) (w : Option Waiting) → slice_get old k ≡ Some w → (Contains places k × (slice_get new k ≡ Some (unasked w))) ⊎ ((Contains places k → ⊥) × (slice_get new k ≡ Some w)))

-- ## What holds of it at each moment

-- what is open at a place was submitted by its session, with this number, where who asked for it still stands there
abbrev pub AreOpen : Story → List ℕ → List (Option Waiting) → Type 0
AreOpen s sessions waits = (place node : ℕ) (w : Waiting) (o : Op) → slice_get sessions place ≡ Some node → slice_get waits place ≡ Some (Some w) → w.op ≡ Some o → op_at s node w.number ≡ Some o

-- what is kept as an end is one
abbrev pub AreEnds : Story → List Late → Type 0
AreEnds s late = All (λ (l : Late). Contains (outcomes s l.session) (l.number, l.outcome)) late

pub record Holds (site : SiteValue) (sessions : List ℕ) (waits : List (Option Waiting)) (late : List Late) : Type 0 where
  pub sessions_are : sessions ≡ sessions_of site.top site.dc
  pub places : length waits ≡ length sessions
  pub submitted : AreOpen site.story sessions waits
  pub ended : AreEnds site.story late
