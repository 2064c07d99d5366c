-- What a file of sites stands for.
use Rattle.std.specs.Prelude.{ℕ, suc, List, [], ◌∷◌, ◌++◌, map, length, replicate, codes, Option, Some, None, if◌then◌else◌, string_bytes}
use Rattle.serde_json.specs.Data.{Data}
use Rattle.serde_json.specs.Find.{as_str}
use Rattle.messages.specs.Topology.{TopologyValue, is_topology}
use Rattle.workload.specs.Gives.{◌>>=◌}
use Rattle.workload.specs.Shape.{has_members, member_by, list_by}
use Rattle.workload.specs.Script.{small_of, families_of}
use Rattle.sites_file.specs.declared.reading.SiteAt.{SiteAt}
use Rattle.sites_file.specs.declared.reading.SitesFile.{SitesFile}

-- one site: where its clients and other sites reach it, and how many sessions are at home there
pub record SiteValue : Type 0 where
  pub clients : List ℕ
  pub peers : List ℕ
  pub sessions : ℕ

pub record SitesValue : Type 0 where
  pub topology : TopologyValue
  pub sites : List SiteValue

abbrev pub site_seen : SiteAt → SiteValue
site_seen s = record { clients = string_bytes s.clients; peers = string_bytes s.peers; sessions = s.sessions }

abbrev pub sites_seen : SitesFile → SitesValue
sites_seen f = record { topology = f.topology; sites = map site_seen f.sites.items }

-- {"clients": .., "peers": .., "sessions": ..}
unfoldable pub site_of : Data → Option SiteValue
site_of d = if has_members 3 d then (do
  clients ← member_by as_str (codes "clients") d
  peers ← member_by as_str (codes "peers") d
  sessions ← member_by small_of (codes "sessions") d
  Some (record { clients = clients; peers = peers; sessions = sessions })) else None

-- the homes of the sessions of these sites, of which the first has this number
abbrev pub homes_from : ℕ → List SiteValue → List ℕ
homes_from dc [] = []
homes_from dc (s ∷ sites) = replicate s.sessions dc ++ homes_from (suc dc) sites

abbrev pub sites_among : TopologyValue → List SiteValue → Option SitesValue
sites_among top sites = if is_topology top.dcs top.shards top.homes then Some (record { topology = top; sites = sites }) else None

-- {"shards": .., "families": .., "sites": ..}: the data centres are numbered as they stand there, and their sessions so too
unfoldable pub sites_of : Data → Option SitesValue
sites_of d = if has_members 3 d then (do
  shards ← member_by small_of (codes "shards") d
  schema ← member_by families_of (codes "families") d
  sites ← member_by (list_by site_of) (codes "sites") d
  sites_among (record { dcs = length sites; shards = shards; schema = schema; homes = homes_from 0 sites }) sites) else None
