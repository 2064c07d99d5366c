-- When a story is that of a site.
use Rattle.std.specs.Prelude.{◌≡◌, ℕ, ◌<◌, ◌==◌, Bool, true, Option, Contains}
use Rattle.std.specs.List.{list_all}
use Rattle.messages.specs.declared.envelope.Envelope.{Envelope}
use Rattle.messages.specs.declared.outcome.Outcome.{Outcome}
use Rattle.messages.specs.Topology.{TopologyValue, is_topology}
use Rattle.actors.specs.CameFrom.{CameFrom}
use Rattle.actors.specs.Journals.{IsBeginning}
use Rattle.actors.specs.Members.{HasPast}
use Rattle.actors.specs.declared.member.Member.{Member}
use Rattle.site.specs.Story.{Story, Happening, is_here, journal, sent, outcomes, arrivals, handled, departures, given, MayHappen}

-- a site, by what clauses see of it
pub record SiteValue : Type 0 where
  -- which actors there are
  pub top : TopologyValue
  -- the data centre of which it is the site
  pub dc : ℕ
  -- whether all that its actors sent is from them and carries the clocks of their events
  pub sound : Bool
  pub story : Story

-- the member is the actor with a node, and has the past that the story tells
abbrev pub IsActor : {M : Type 0} → CameFrom M → (M → Option (ℕ × Outcome)) → TopologyValue → Story → ℕ → Member M → Type 0
IsActor came_from untaken top s node m = (m.node ≡ node) × HasPast came_from untaken top (journal s node) (outcomes s node) (sent s node) m

-- One moment of the site of a data centre: what happened may happen there; what its actors handled had come, each once and in order;
-- what was given they had sent to others, each once and in order; and each of them is a machine that came from what it did.
pub record IsMoment {M : Type 0} (came_from : CameFrom M) (untaken : M → Option (ℕ × Outcome)) (top : TopologyValue) (dc : ℕ) (s : Story) : Type 0 where
  pub may : (h : Happening) → Contains s h → MayHappen top dc h
  pub handles : IsBeginning (handled s) (arrivals top dc s)
  pub gives : IsBeginning (given s) (departures top dc s)
  pub actors : (node : ℕ) → is_here top dc node ≡ true → (m : Member M) × IsActor came_from untaken top s node m

-- The story of the site of a data centre of a topology that there is: each moment of it is one.
pub record IsStory {M : Type 0} (came_from : CameFrom M) (untaken : M → Option (ℕ × Outcome)) (top : TopologyValue) (dc : ℕ) (s : Story) : Type 0 where
  pub topology : is_topology top.dcs top.shards top.homes ≡ true
  pub there : dc < top.dcs
  pub moments : (before : Story) → IsBeginning before s → IsMoment came_from untaken top dc before

-- All that the actors of a story sent is from them, and carries the clocks of their events.
pub record IsSound {M : Type 0} (came_from : CameFrom M) (untaken : M → Option (ℕ × Outcome)) (top : TopologyValue) (dc : ℕ) (s : Story) : Type 0 where
  pub own : (node : ℕ) → is_here top dc node ≡ true → list_all (λ (e : Envelope). e.from == node) (sent s node) ≡ true
  pub timed : (node : ℕ) → is_here top dc node ≡ true → (m : Member M) × IsActor came_from untaken top s node m × (m.timed ≡ true)
