-- Collections of the shards of a site.
use Rattle.std.specs.Prelude.{◌≡◌, ◌-◌, ◌^◌, ◌<◌, ◌⊎◌, ℕ, min, false, List, ◌++◌, All, map, filter_map, slice_get, option_to_list, Option, Some, None}
use Rattle.std.specs.List.{range_with_len}
use Rattle.std.specs.List.Sorted.{IsStrictlyIncreasing}
use Rattle.messages.specs.declared.outcome.Outcome.{Outcome}
use Rattle.messages.specs.declared.event.ActorEvent.TheVariants.{Collect}
use Rattle.messages.specs.Topology.{TopologyValue, shard_node}
use Rattle.site.specs.Story.{Happening, Did, Heard, Given}
use Rattle.site.specs.Sites.{SiteValue}
use Rattle.site.specs.Turns.{clock_in, HasDone, HasBroken}
use Rattle.site_port.specs.declared.waiting.Late.{Late}
use Rattle.site_port.specs.Ends.{end_by, ends_in, GoesOnWith}

-- the clock of a shard that is here; where it is spent, the last time that there is
abbrev pub clock_of : SiteValue → ℕ → ℕ
clock_of site shard = min (clock_in site.story (shard_node site.top site.dc shard)) (2 ^ 48 - 1)

-- the clocks of all shards that are here, in the order of their nodes
abbrev pub clocks_of : SiteValue → List ℕ
clocks_of site = map (clock_of site) (range_with_len 0 site.top.shards)

-- a shard of a data centre collected up to the time that it has among these
abbrev pub IsCollection : TopologyValue → ℕ → List ℕ → Happening → Type 0
IsCollection top dc times (Did node x sends ended) =
    (shard : ℕ) × (time : ℕ) × (shard < top.shards) × (slice_get times shard ≡ Some time) × (node ≡ shard_node top dc shard) × (x ≡ Collect time)
IsCollection top dc times (Heard from e) = ⊥
IsCollection top dc times (Given e) = ⊥

-- the actor that did something
abbrev pub actor_in : Happening → Option ℕ
actor_in (Did node x sends ended) = Some node
actor_in (Heard from e) = None
actor_in (Given e) = None

-- ## One shard

-- it collected up to the time, and what that ended is kept
abbrev pub HasCollectedTo : ℕ → ℕ → SiteValue → List Late → SiteValue → List Late → Type 0
HasCollectedTo node time old late new kept =
    (ended : Option (ℕ × Outcome)) × HasDone old node (Collect time) ended new × (kept ≡ late ++ option_to_list (end_by node ended))

-- it stays as it is, or it collected up to its time among these
abbrev pub MayHaveCollected : ℕ → List ℕ → SiteValue → List Late → SiteValue → List Late → Type 0
MayHaveCollected shard times old late new kept =
    ((new ≡ old) × (kept ≡ late))
    ⊎ ((time : ℕ) × (slice_get times shard ≡ Some time) × HasCollectedTo (shard_node old.top old.dc shard) time old late new kept)

-- the site isn't sound: it wasn't before, or the collection of a shard up to its time among these broke it
abbrev pub IsBroken : ℕ → List ℕ → SiteValue → SiteValue → Type 0
IsBroken shard times old new =
    (time : ℕ) × (slice_get times shard ≡ Some time)
    × (((new ≡ old) × (old.sound ≡ false)) ⊎ HasBroken old (shard_node old.top old.dc shard) (Collect time) new)

-- ## All shards

-- Shards collected, each up to its time among these, one after the other in the order of their nodes; and all that ended is kept.
pub record HasCollected (times : List ℕ) (old : SiteValue) (late : List Late) (new : SiteValue) (kept : List Late) : Type 0 where
  pub happened : List Happening
  pub collected : All (IsCollection old.top old.dc times) happened
  pub in_order : IsStrictlyIncreasing (filter_map actor_in happened)
  pub went : GoesOnWith old happened new
  pub ended : kept ≡ late ++ ends_in happened

-- Shards collected so, until the site wasn't sound any more.
pub record HasBrokenOff (times : List ℕ) (old : SiteValue) (late : List Late) (new : SiteValue) (kept : List Late) : Type 0 where
  pub between : SiteValue
  pub before : HasCollected times old late between kept
  pub shard : ℕ
  pub within : shard < old.top.shards
  pub broken : IsBroken shard times between new
