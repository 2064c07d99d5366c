-- When nothing waits at a site.
use Rattle.std.specs.Prelude.{◌≡◌, ℕ}
use Rattle.messages.specs.Topology.{TopologyValue}
use Rattle.site.specs.Story.{Story, arrivals, handled}

-- all that came for the site's actors was handled: what they sent each other, and what came from other sites. Whether more is to come
-- from these isn't asked
abbrev pub IsIdle : TopologyValue → ℕ → Story → Type 0
IsIdle top dc s = handled s ≡ arrivals top dc s
