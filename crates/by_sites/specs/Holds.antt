-- What holds while sites run a script.
use Rattle.std.specs.Prelude.{◌≡◌, ℕ, ◌==◌, ◌&&◌, List, [], ◌++◌, map, filter}
use Rattle.messages.specs.declared.envelope.Envelope.{Envelope}
use Rattle.messages.specs.Topology.{TopologyValue}
use Rattle.site.specs.Story.{Story, site_of, outcomes, heard, given}
use Rattle.site.specs.Sites.{SiteValue}
use Rattle.sites.specs.Sites.{DoMeet}
use Rattle.workload.specs.declared.script.ScriptEvent.{ScriptEvent}
use Rattle.workload.specs.declared.transcript.Entry.{Entry}
use Rattle.workload.specs.Simulation.{is_outcome}
use Rattle.by_sites.specs.Sites.{AreSites, stories_of}
use Rattle.by_sites.specs.Asked.{entry_in, told_of, DidAsked}

-- what goes from one actor to another, in order
abbrev pub between : ℕ → ℕ → List Envelope → List Envelope
between from to envelopes = filter (λ (e : Envelope). (e.from == from) && (e.to == to)) envelopes

-- The outcomes of each actor are told, in order.
abbrev pub AreTold : TopologyValue → (ℕ → Story) → List Entry → Type 0
AreTold top stories entries =
    (node : ℕ) → filter is_outcome (told_of node entries) ≡ map (entry_in node) (outcomes (stories (site_of top node)) node)

-- What was given at the site of an actor came to that of another in the same order, but for these, which are under way.
abbrev pub DidPass : TopologyValue → (ℕ → Story) → List Envelope → Type 0
DidPass top stories way =
    (from to : ℕ) → between from to (heard (stories (site_of top to))) ++ between from to way ≡ between from to (given (stories (site_of top from)))

-- These sites did what the events of a script so far ask for, and this is told of it. These envelopes are under way.
pub record Holds (top : TopologyValue) (events : List ScriptEvent) (sites : List SiteValue) (entries : List Entry) (way : List Envelope) : Type 0 where
  pub are : AreSites top sites
  pub meet : DoMeet top (stories_of sites)
  pub told : AreTold top (stories_of sites) entries
  pub asked : (node : ℕ) → DidAsked top events node (stories_of sites (site_of top node)) entries
  pub passed : DidPass top (stories_of sites) way

-- what held before holds again, with nothing asked for meanwhile
abbrev pub GoesOn : TopologyValue → List SiteValue → List Entry → List SiteValue → List Entry → Type 0
GoesOn top sites entries new told = (events : List ScriptEvent) → Holds top events sites entries [] → Holds top events new told []

-- and with these events of a script
abbrev pub HasTaken : TopologyValue → List ScriptEvent → List SiteValue → List Entry → List SiteValue → List Entry → Type 0
HasTaken top more sites entries new told = (events : List ScriptEvent) → Holds top events sites entries [] → Holds top (events ++ more) new told []
