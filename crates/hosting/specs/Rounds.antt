-- What a round makes of a node.
use Rattle.std.specs.Prelude.{◌≡◌, ◌⊎◌, ◌-◌, ℕ, nat_le, if◌then◌else◌, Bool, true, List, [], ◌++◌, All, filter, filter_map, length, take, drop, slice_get, Option, Some, None, Result, Ok, Err}
use Rattle.logical_time.specs.declared.fault.Fault.{Fault}
use Rattle.messages.specs.declared.envelope.Envelope.{Envelope}
use Rattle.messages.specs.Topology.{TopologyValue}
use Rattle.readiness.specs.declared.connection.TheConstants.{LIMIT}
use Rattle.readiness.specs.Lines.{ReadyValue}
use Rattle.readiness.specs.Exchanges.{Entry}
use Rattle.doors.specs.declared.listening.Doors.{Doors}
use Rattle.doors.specs.Rounds.{Round, RoundSettled}
use Rattle.doors.specs.Spans.{Spans}
use Rattle.site.specs.Story.{Happening, Did, Heard, Given, site_of, may_come, given, departures}
use Rattle.site.specs.Steps.{steps}
use Rattle.site.specs.Sites.{SiteValue}
use Rattle.site_port.specs.Ends.{ends_in, IsHandling, GoesOnWith}
use Rattle.site_port.specs.Collecting.{clocks_of, IsCollection}
use Rattle.site_port.specs.declared.waiting.Waiting.{Waiting}
use Rattle.site_port.specs.Port.{PortValue, SessionsValue, port_of, kept_of, IsStep, AreLeft}
use Rattle.threaded.specs.Machines.{Refuses}
use Rattle.ways.specs.Crossings.{Crossing, Sent, Came, Refused, Confirmed, Nothing, Crosses, sent_by, brought_by}
use Rattle.hosting.specs.declared.marks.Marks.{Marks}

-- ## Marks

-- whether it is time for the shards to collect: 5,000 ms have passed since the marks were taken
abbrev pub is_due : Marks → ℕ → Bool
is_due marks time = nat_le 5000 (time - marks.taken)

-- up to where they collect at a time: up to the marks, where it is time
abbrev pub due : Marks → ℕ → List ℕ
due marks time = if is_due marks time then marks.clocks.items else []

-- the shards had these clocks somewhere between two moments of their site
abbrev pub HadClocks : SiteValue → SiteValue → List ℕ → Type 0
HadClocks old new clocks =
    (between : SiteValue) × (first rest : List Happening) × GoesOnWith old first between × GoesOnWith between rest new × (clocks ≡ clocks_of between)

-- The marks after a time at which the site went on so: they stay, or it is time, and they are the clocks that its shards had then.
abbrev pub AreMarked : ℕ → SiteValue → SiteValue → Marks → Marks → Type 0
AreMarked time old new marks marks_then =
    (marks_then ≡ marks) ⊎ ((is_due marks time ≡ true) × (marks_then.taken ≡ time) × HadClocks old new marks_then.clocks.items)

-- ## Between requests

-- an actor of the site handled an envelope, a shard of it collected up to the time that it has among these, an envelope came from
-- another site, or one was given to the way to another
abbrev pub IsPassing : TopologyValue → ℕ → List ℕ → Happening → Type 0
IsPassing top dc times (Did node x sends ended) = IsHandling (Did node x sends ended) ⊎ IsCollection top dc times (Did node x sends ended)
IsPassing top dc times (Heard from e) = Unit {0}
IsPassing top dc times (Given e) = Unit {0}

-- what was given, with the data centre of the site for whose actor it is
abbrev pub gift : TopologyValue → Happening → Option (ℕ × Envelope)
gift top (Did node x sends ended) = None
gift top (Heard from e) = None
gift top (Given e) = Some (site_of top e.to, e)

-- what was heard, with the data centre from which it came
abbrev pub receipt : Happening → Option (ℕ × Envelope)
receipt (Did node x sends ended) = None
receipt (Heard from e) = Some (from, e)
receipt (Given e) = None

-- No session was asked: the site's story went on with what passed, where shards collected up to these times, and all that ended
-- meanwhile is kept.
pub record Passes (times : List ℕ) (old : PortValue) (happened : List Happening) (new : PortValue) : Type 0 where
  pub went : GoesOnWith old.site happened new.site
  pub passing : All (IsPassing old.site.top old.site.dc times) happened
  pub waiting : new.waiting ≡ old.waiting
  pub late : new.late ≡ old.late ++ ends_in happened
  pub behind : new.behind ≡ old.behind

-- What the ways took is what was given meanwhile, each for the site of the actor for which it is, in order; and what was heard is what they
-- brought and may come from there, in order.
pub record Matches (top : TopologyValue) (dc : ℕ) (happened : List Happening) (crossed : List Crossing) : Type 0 where
  pub gifts : filter_map (gift top) happened ≡ filter_map sent_by crossed
  pub receipts : filter_map receipt happened ≡ filter (λ (r : ℕ × Envelope). may_come top dc r.0 r.1) (filter_map brought_by crossed)

-- nothing leaves: no envelope is taken for another site, and none that came is confirmed
abbrev pub IsComing : Crossing → Type 0
IsComing (Sent to e) = ⊥
IsComing (Came from e) = Unit {0}
IsComing (Refused from) = Unit {0}
IsComing Confirmed = ⊥
IsComing Nothing = Unit {0}

-- nothing comes, and nothing is confirmed
abbrev pub IsGoing : Crossing → Type 0
IsGoing (Sent to e) = Unit {0}
IsGoing (Came from e) = ⊥
IsGoing (Refused from) = ⊥
IsGoing Confirmed = ⊥
IsGoing Nothing = Unit {0}

-- The site passed on, and what crossed is what it gave and heard, and such as may cross now.
pub record HasPassed {W : Type 0} (may : Crossing → Type 0) (steps : W → Crossing → W → Type 0) (times : List ℕ) (port : PortValue) (ways : W) (port_then : PortValue) (ways_then : W) : Type 0 where
  pub happened : List Happening
  pub crossed : List Crossing
  pub only : All may crossed
  pub passed : Passes times port happened port_then
  pub crosses : Crosses steps ways crossed ways_then
  pub matches : Matches port.site.top port.site.dc happened crossed

-- all that goes to other sites was given to the ways
abbrev pub AreGiven : PortValue → Type 0
AreGiven p = given p.site.story ≡ departures p.site.top p.site.dc p.site.story

-- ## A round

-- nothing left by the ways
abbrev pub LeavesNone : {W : Type 0} → (W → Crossing → W → Type 0) → W → W → Type 0
LeavesNone crosses ways ways_then = (crossed : List Crossing) × All IsComing crossed × Crosses crosses ways crossed ways_then

-- The site passed on, and nothing left it; then all that it had done was settled.
pub record HasSettled {K : Type 0} {W : Type 0} (settles : SessionsValue K → Result (Unit {0}) Fault → SessionsValue K → Type 0) (crosses : W → Crossing → W → Type 0) (times : List ℕ)
    (port : SessionsValue K) (ways : W) (settled : SessionsValue K) (ways_done : W) : Type 0 where
  pub done : SessionsValue K
  pub passed : HasPassed IsComing crosses times (port_of port) ways (port_of done) ways_done
  pub ungiven : given done.site.site.story ≡ given port.site.site.story
  pub unkept : kept_of done ≡ kept_of port
  pub is_settled : settles done (Ok tt) settled
  pub stays : port_of settled ≡ port_of done

-- The site passed on, and nothing left it; then all that it had done was settled; and only then what had come was confirmed, and what is to
-- go was given, and nothing else was done. So what leaves it is of steps that are kept for good, where a log is kept.
pub record SettlesFirst {K : Type 0} {W : Type 0} (settles : SessionsValue K → Result (Unit {0}) Fault → SessionsValue K → Type 0) (crosses : W → Crossing → W → Type 0) (times : List ℕ)
    (port : SessionsValue K) (ways : W) (port_then : SessionsValue K) (ways_then : W) : Type 0 where
  pub settled : SessionsValue K
  pub ways_done : W
  pub first : HasSettled settles crosses times port ways settled ways_done
  pub ways_confirmed : W
  pub confirmed : crosses ways_done Confirmed ways_confirmed
  pub gave : HasPassed IsGoing crosses [] (port_of settled) ways_confirmed (port_of port_then) ways_then
  pub undone : steps port_then.site.site.story ≡ steps settled.site.site.story
  pub kept : kept_of port_then ≡ kept_of settled

-- What is to go was given as far as the ways took it, and nothing else was done. What was given last may not have been taken.
pub record GivesSome {W : Type 0} (crosses : W → Crossing → W → Type 0) (port : PortValue) (ways : W) (port_then : PortValue) (ways_then : W) : Type 0 where
  pub between : PortValue
  pub ways_between : W
  pub gave : HasPassed IsGoing crosses [] port ways between ways_between
  pub untaken : List Envelope
  pub rest : given port_then.site.story ≡ given between.site.story ++ untaken
  pub silent : LeavesNone crosses ways_between ways_then
  pub undone : steps port_then.site.story ≡ steps port.site.story

-- It was refused on the way: nothing had left the site, and it had given nothing; or all that it had done was settled, and then it was refused
-- while it gave. So also then what left it is of steps that are kept for good.
abbrev pub BreaksOff : {K W : Type 0} → (SessionsValue K → Result (Unit {0}) Fault → SessionsValue K → Type 0) → (W → Crossing → W → Type 0) → List ℕ → SessionsValue K → W → SessionsValue K → W → Type 0
BreaksOff {K = K} {W = W} settles crosses times port ways port_then ways_then =
    (LeavesNone crosses ways ways_then × (given port_then.site.site.story ≡ given port.site.site.story))
    ⊎ ((settled : SessionsValue K) × (ways_done ways_confirmed : W) × HasSettled settles crosses times port ways settled ways_done × crosses ways_done Confirmed ways_confirmed
    × GivesSome crosses (port_of settled) ways_confirmed (port_of port_then) ways_then × (kept_of port_then ≡ kept_of settled))

-- ## Who comes

-- The free place that is given next is given last, where something is open there; else all free places stay as they are.
abbrev pub IsPutOff : List (Option Waiting) → List ℕ → List ℕ → Type 0
IsPutOff waiting free free_then =
    ((free_then ≡ free) × ((place : ℕ) (w : Waiting) → slice_get free (length free - 1) ≡ Some place → slice_get waiting place ≡ Some (Some w) → ⊥))
    ⊎ ((place : ℕ) × (w : Waiting) × (slice_get free (length free - 1) ≡ Some place) × (slice_get waiting place ≡ Some (Some w))
    × (free_then ≡ drop (length free - 1) free ++ take (length free - 1) free))

-- The doors had a round, in which requests were answered. Who came in it stands at one of the fresh places, and what is open there is nobody's
-- from then on: nobody is told what another asked for.
pub record AreWelcomed {L : Type 0} {D : Type 0} {K : Type 0} (seen : L → ReadyValue) (nobody announces : D → Type 0) (time : ℕ) (doors : Doors L D) (port : PortValue) (doors_then : Doors L D) (answered port_then : SessionsValue K) : Type 0 where
  pub log : List Entry
  pub round : Round LIMIT seen (IsStep Refuses) nobody announces time log doors port doors_then (port_of answered)
  pub left : AreLeft doors_then.hall.fresh.items answered.waiting port_then.waiting
  pub stays : port_then ≡ record answered { waiting = port_then.waiting }

-- of a round of the doors that was refused, or was not
abbrev pub WhereDone : Result (Unit {0}) Fault → Type 0 → Type 0 → Type 0
WhereDone (Ok u) done refused = done
WhereDone (Err fault) done refused = refused

-- The site passed on to where requests were answered, and nothing else happened after; where it was time its shards collected up to the
-- marks on the way. The lines of those who came are told what their sessions answered, and none says a byte more before that has settled
-- too. Batches are refused exactly where too much waits for another site. And where who stood at a place is gone, what is open there is
-- nobody's; the doors may be refused, and then that stays.
pub record HasRounded {L : Type 0} {D : Type 0} {W : Type 0} {K : Type 0} (settles : SessionsValue K → Result (Unit {0}) Fault → SessionsValue K → Type 0) (crosses : W → Crossing → W → Type 0) (is_behind : W → Bool) (seen : L → ReadyValue) (gives : D → Option L → D → Type 0)
    (nobody announces : D → Type 0) (time : ℕ) (doors : Doors L D) (port : SessionsValue K) (ways : W) (marks : Marks) (doors_then : Doors L D) (port_then : SessionsValue K) (ways_then : W) (marks_then : Marks) (result : Result (Unit {0}) Fault) : Type 0 where
  pub before : SessionsValue K
  pub passed : SettlesFirst settles crosses (due marks time) port ways before ways_then
  pub marked : AreMarked time port.site.site before.site.site marks marks_then
  pub answered : SessionsValue K
  pub asked : Spans seen (IsStep Refuses) gives doors.idle doors.door doors.hall.places.places.items (port_of (record before { behind = is_behind ways_then })) doors_then.door doors_then.hall.places.places.items (port_of answered)
  pub told : RoundSettled seen kept_of settles doors.hall.places.places.items (record before { behind = is_behind ways_then }) doors_then.hall.places.places.items answered result
  pub welcomed : WhereDone result (AreWelcomed seen nobody announces time doors (port_of (record before { behind = is_behind ways_then })) doors_then answered port_then) (port_then ≡ answered)
