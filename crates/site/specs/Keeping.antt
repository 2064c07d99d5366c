-- What a site keeps of its story.
use Rattle.std.specs.Prelude.{◌≡◌, ℕ, ◌==◌, ◌⊎◌, ◌&&◌, Bool, true, List, [], ◌++◌, length, filter, slice_get, slice_set, Option, Some, None}
use Rattle.std.specs.List.{list_all}
use Rattle.logical_time.specs.declared.fault.Fault.{Fault}
use Rattle.logical_time.specs.declared.fault.Fault.TheVariants.{Memory}
use Rattle.messages.specs.declared.envelope.Envelope.{Envelope}
use Rattle.messages.specs.declared.outcome.Outcome.{Outcome}
use Rattle.messages.specs.declared.event.ActorEvent.{ActorEvent}
use Rattle.messages.specs.Topology.{TopologyValue}
use Rattle.actors.specs.CameFrom.{CameFrom}
use Rattle.actors.specs.Journals.{number_after}
use Rattle.actors.specs.Machines.{Refuses}
use Rattle.actors.specs.Members.{HasPast, GoesOn, HasSamePast}
use Rattle.actors.specs.declared.member.Member.{Member}
use Rattle.actors.specs.declared.member.Happened.{Happened}
use Rattle.site.specs.Story.{Story, is_here, is_near, is_far, sent, arrivals, handled, departures, given}
use Rattle.site.specs.Sites.{IsActor, IsStory}

-- ## What is kept

-- These members, each at the place of its node, what waits for them, what is to go to other sites, and what the last event sent,
-- which isn't sorted yet, are of this story: what was handled and what waits is what came, and what was given and is to go is what
-- was sent to others, in order.
pub record AreOf {M : Type 0} (came_from : CameFrom M) (untaken : M → Option (ℕ × Outcome)) (top : TopologyValue) (dc : ℕ) (s : Story)
    (members : List (Option (Member M))) (inbox outgoing fresh : List Envelope) : Type 0 where
  pub waits : handled s ++ (inbox ++ filter (is_near top dc) fresh) ≡ arrivals top dc s
  pub goes : given s ++ (outgoing ++ filter (is_far top dc) fresh) ≡ departures top dc s
  pub each : (node : ℕ) (m : Member M) → slice_get members node ≡ Some (Some m) → (is_here top dc node ≡ true) × IsActor came_from untaken top s node m
  pub all : (node : ℕ) → is_here top dc node ≡ true → (m : Member M) × (slice_get members node ≡ Some (Some m))

-- all that they sent is from them, and carries the clocks of their events
abbrev pub AreSound : {M : Type 0} → Story → List (Option (Member M)) → Type 0
AreSound {M} s members =
    (node : ℕ) (m : Member M) → slice_get members node ≡ Some (Some m) → (m.timed ≡ true) × (list_all (λ (e : Envelope). e.from == node) (sent s node) ≡ true)

-- what a site keeps is of its story
pub record Keeps {M : Type 0} (came_from : CameFrom M) (untaken : M → Option (ℕ × Outcome)) (top : TopologyValue) (dc : ℕ) (sound : Bool) (s : Story)
    (members : List (Option (Member M))) (inbox outgoing fresh : List Envelope) : Type 0 where
  pub story : IsStory came_from untaken top dc s
  pub now : AreOf came_from untaken top dc s members inbox outgoing fresh
  pub sounds : sound ≡ true → AreSound s members

-- ## Events

-- the member at a place did the event, which made this of it
pub record MemberDid {M : Type 0} (came_from : CameFrom M) (untaken : M → Option (ℕ × Outcome)) (before : List (Option (Member M))) (place : ℕ) (event : ActorEvent)
    (h : Happened) (sends : List Envelope) (after : List (Option (Member M))) : Type 0 where
  pub old : Member M
  pub new : Member M
  pub at : slice_get before place ≡ Some (Some old)
  pub set : after ≡ slice_set before place (Some new)
  pub node : new.node ≡ old.node
  pub past : GoesOn came_from untaken event h.ended sends old new
  pub sound : h.sound ≡ (list_all (λ (e : Envelope). e.from == old.node) sends && list_all (λ (e : Envelope). e.time == new.clock) sends)
  pub timed : new.timed ≡ (old.timed && list_all (λ (e : Envelope). e.time == new.clock) sends)
  pub number : (top : TopologyValue) (js : List ActorEvent) (os : List (ℕ × Outcome)) (es : List Envelope) → HasPast came_from untaken top js os es old → h.number ≡ number_after js event

-- the member at a place refused the event, and has the past that it had
pub record MemberRefused {M : Type 0} (came_from : CameFrom M) (untaken : M → Option (ℕ × Outcome)) (refuses : Refuses) (before : List (Option (Member M))) (place : ℕ) (event : ActorEvent)
    (fault : Fault) (after : List (Option (Member M))) : Type 0 where
  pub old : Member M
  pub new : Member M
  pub at : slice_get before place ≡ Some (Some old)
  pub set : after ≡ slice_set before place (Some new)
  pub node : new.node ≡ old.node
  pub timed : new.timed ≡ old.timed
  pub past : HasSamePast came_from untaken old new
  pub refused : (top : TopologyValue) (js : List ActorEvent) (os : List (ℕ × Outcome)) (es : List Envelope) → HasPast came_from untaken top js os es old
      → (fault ≡ Memory) ⊎ refuses top old.node js event fault

-- ## Before the first event

-- what stands at a node's place before the first event: its actor, if the site keeps it
abbrev pub IsNew : {M : Type 0} → CameFrom M → (M → Option (ℕ × Outcome)) → TopologyValue → ℕ → ℕ → Option (Member M) → Type 0
IsNew came_from untaken top dc node (Some m) = (is_here top dc node ≡ true) × IsActor came_from untaken top [] node m × (m.timed ≡ true)
IsNew came_from untaken top dc node None = is_here top dc node ≡ true → ⊥

-- so it stands at the places of the first so many nodes
pub record AreNew {M : Type 0} (came_from : CameFrom M) (untaken : M → Option (ℕ × Outcome)) (top : TopologyValue) (dc count : ℕ) (members : List (Option (Member M))) : Type 0 where
  pub all : length members ≡ count
  pub each : (node : ℕ) (m : Option (Member M)) → slice_get members node ≡ Some m → IsNew came_from untaken top dc node m
