-- The sites of all data centres in one process, and what one sends another there.
use Rattle.std.specs.Prelude.{◌≡◌, ℕ, ◌<◌, true, List, [], length, slice_get, slice_set, Option, Some, None, Ok}
use Rattle.messages.specs.declared.envelope.Envelope.{Envelope}
use Rattle.messages.specs.Topology.{TopologyValue}
use Rattle.parcels.specs.Reading.{parcel_at}
use Rattle.site.specs.Story.{Story, Heard, may_come, arrivals, handled, departures, given}
use Rattle.site.specs.Sites.{SiteValue}
use Rattle.site.specs.Turns.{goes_on}
use Rattle.sites.specs.Sites.{IsSiteStory}

-- ## Sites by their data centres

abbrev pub story_at : Option SiteValue → Story
story_at None = []
story_at (Some s) = s.story

-- the story of the site of each data centre
abbrev pub stories_of : List SiteValue → ℕ → Story
stories_of sites dc = story_at (slice_get sites dc)

-- a site of this topology at the place of each data centre
pub record AreSites (top : TopologyValue) (sites : List SiteValue) : Type 0 where
  pub count : length sites ≡ top.dcs
  pub each : (dc : ℕ) (s : SiteValue) → slice_get sites dc ≡ Some s → (s.top ≡ top) × (s.dc ≡ dc)

-- the site of a data centre before its first event
abbrev pub new_site : TopologyValue → ℕ → SiteValue
new_site top dc = record { top = top; dc = dc; sound = true; story = [] }

-- so they stand at the places of the first so many
pub record AreNewSites (top : TopologyValue) (count : ℕ) (sites : List SiteValue) : Type 0 where
  pub all : length sites ≡ count
  pub each : (dc : ℕ) (s : SiteValue) → slice_get sites dc ≡ Some s → s ≡ new_site top dc

-- ## What comes from one to another

-- The bytes are a parcel of an envelope, and this came from the site of one data centre to that at a place, where it may come.
pub record HasCome (from place : ℕ) (bytes : List ℕ) (old new : List SiteValue) : Type 0 where
  pub envelope : Envelope
  pub reads : parcel_at bytes ≡ Ok envelope
  pub site : SiteValue
  pub at : slice_get old place ≡ Some site
  pub may : may_come site.top site.dc from envelope ≡ true
  pub set : new ≡ slice_set old place (goes_on site (Heard from envelope))

-- ## At rest

-- all that came to the site at a place was handled
abbrev pub IsAllHandled : ℕ → List SiteValue → Type 0
IsAllHandled place sites = (s : SiteValue) → slice_get sites place ≡ Some s → handled s.story ≡ arrivals s.top s.dc s.story

-- all that it sent to others was given
abbrev pub IsAllGiven : ℕ → List SiteValue → Type 0
IsAllGiven place sites = (s : SiteValue) → slice_get sites place ≡ Some s → given s.story ≡ departures s.top s.dc s.story

-- both
abbrev pub IsAtRestAt : ℕ → List SiteValue → Type 0
IsAtRestAt place sites = IsAllHandled place sites × IsAllGiven place sites

-- so it is at the first so many places
abbrev pub AreAtRest : ℕ → List SiteValue → Type 0
AreAtRest count sites = (place : ℕ) → place < count → IsAtRestAt place sites

-- ## Sound

-- these sites, each of its data centre, lived through what a site of the store's actors may live through
abbrev pub AreSound : ℕ → List SiteValue → Type 0
AreSound count sites = (dc : ℕ) (s : SiteValue) → dc < count → slice_get sites dc ≡ Some s → IsSiteStory s.top s.dc s.story
