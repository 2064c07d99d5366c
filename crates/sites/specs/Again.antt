-- Sites that came back, by doing the same steps again.
use Rattle.std.specs.Prelude.{◌≡◌, ◌<◌, ℕ, true, List, length, drop, filter_map, Option, Some, None, Contains}
use Rattle.messages.specs.declared.envelope.Envelope.{Envelope}
use Rattle.messages.specs.declared.op.Op.{Op}
use Rattle.messages.specs.declared.outcome.Outcome.{Outcome}
use Rattle.messages.specs.Topology.{TopologyValue}
use Rattle.actors.specs.Journals.{IsBeginning}
use Rattle.threaded.specs.Machines.{StaysApart}
use Rattle.site.specs.Story.{Story, Happening, Did, Heard, Given, site_of, is_here, journal, heard, departures}
use Rattle.site.specs.Steps.{steps}
use Rattle.site.specs.Ends.{HasEnded}

-- ## One site

-- what a site lived through: all but what it gave to the ways to other sites
abbrev pub lived_by : Happening → Option Happening
lived_by (Did node x sends ended) = Some (Did node x sends ended)
lived_by (Heard from e) = Some (Heard from e)
lived_by (Given e) = None

-- all of it, oldest first
abbrev pub lived : Story → Story
lived s = filter_map lived_by s

-- The second story is of a site that did all steps of the first again, in order, and then any others. What was given to other sites
-- is no step, and may be given again, or less of it.
abbrev pub HasComeBack : Story → Story → Type 0
HasComeBack s t = IsBeginning (steps s) (steps t)

-- Along the journals of the site's actors stamps stay apart. So it is wherever these are of a run.
abbrev pub StayApart : TopologyValue → ℕ → Story → Type 0
StayApart top dc s = (node : ℕ) → is_here top dc node ≡ true → StaysApart top node (journal s node)

-- The second story goes on from the first: it begins with all that was lived through in that. So it begins with what came from other
-- sites and with what was sent to them, and each operation that ended has ended so.
pub record GoesOnFrom (top : TopologyValue) (dc : ℕ) (s t : Story) : Type 0 where
  pub lives : IsBeginning (lived s) (lived t)
  pub hears : IsBeginning (heard s) (heard t)
  pub departs : IsBeginning (departures top dc s) (departures top dc t)
  pub ends : (node number : ℕ) (o : Op) (result : Outcome) → HasEnded s node number o result → HasEnded t node number o result

-- ## All sites

-- Each of these sites came back, any number of them after a crash: one that only went on has done the same steps too.
abbrev pub HaveComeBack : TopologyValue → (ℕ → Story) → (ℕ → Story) → Type 0
HaveComeBack top before after = (dc : ℕ) → dc < top.dcs → HasComeBack (before dc) (after dc)

-- what came to a site after so much that came before
abbrev pub heard_since : Story → Story → List Envelope
heard_since s t = drop (length (heard s)) (heard t)

-- The network since then: what came later to a site was sent to other sites by an actor of its sender's site, as that came back.
abbrev pub DoMeetSince : TopologyValue → (ℕ → Story) → (ℕ → Story) → Type 0
DoMeetSince top before after =
    (dc : ℕ) (e : Envelope) → dc < top.dcs → Contains (heard_since (before dc) (after dc)) e
    → Contains (departures top (site_of top e.from) (after (site_of top e.from))) e
