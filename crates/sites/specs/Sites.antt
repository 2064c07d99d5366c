-- The sites of all data centres, each with its story, and the network between them.
use Rattle.std.specs.Prelude.{◌≡◌, ℕ, ◌<◌, true, List, Contains}
use Rattle.messages.specs.declared.envelope.Envelope.{Envelope}
use Rattle.messages.specs.declared.outcome.Outcome.{Outcome}
use Rattle.messages.specs.declared.event.ActorEvent.{ActorEvent}
use Rattle.messages.specs.Topology.{TopologyValue}
use Rattle.threaded.specs.Machines.{CameFrom, untaken_of}
use Rattle.site.specs.Story.{Story, site_of, is_here, journal, outcomes, heard, departures}
use Rattle.site.specs.Sites.{IsStory, IsSound}

-- ## One site

-- the story of the site of a data centre whose actors are the store's shards and sessions, and sent nothing but their own
abbrev pub IsSiteStory : TopologyValue → ℕ → Story → Type 0
IsSiteStory top dc s = IsStory CameFrom untaken_of top dc s × IsSound CameFrom untaken_of top dc s

-- these journals of all actors have those of the site's own
abbrev pub HasStory : TopologyValue → ℕ → Story → (ℕ → List ActorEvent) → Type 0
HasStory top dc s journals = (node : ℕ) → is_here top dc node ≡ true → journals node ≡ journal s node

-- ## All sites

-- each data centre's site has its story
abbrev pub DoLive : TopologyValue → (ℕ → Story) → Type 0
DoLive top stories = (dc : ℕ) → dc < top.dcs → IsSiteStory top dc (stories dc)

-- The network: what came to a site was sent to other sites by an actor of the site of the one that it is from. It may have come late,
-- again, in another order, or not at all.
abbrev pub DoMeet : TopologyValue → (ℕ → Story) → Type 0
DoMeet top stories =
    (dc : ℕ) (e : Envelope) → dc < top.dcs → Contains (heard (stories dc)) e
    → Contains (departures top (site_of top e.from) (stories (site_of top e.from))) e

-- the journal of each actor, by the story of its site
abbrev pub journals_of : TopologyValue → (ℕ → Story) → ℕ → List ActorEvent
journals_of top stories node = journal (stories (site_of top node)) node

-- the outcomes that each actor gave
abbrev pub outcomes_of : TopologyValue → (ℕ → Story) → ℕ → List (ℕ × Outcome)
outcomes_of top stories node = outcomes (stories (site_of top node)) node
