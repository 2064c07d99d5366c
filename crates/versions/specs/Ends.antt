-- How a chain is kept: the smallest stamp first, each version with the first time at which a newer one is seen.
use Rattle.std.specs.Prelude.{◌≡◌, ℕ, ◌^◌, ◌≤◌, ◌<◌, if◌then◌else◌, nat_le, List, [], ◌∷◌, ◌++◌, map, reverse, take, drop, length, Option, Some, None, ⊤}
use Rattle.versions.specs.declared.version.Version.{Version}
use Rattle.versions.specs.declared.entry.Entry.{Entry}
use Rattle.versions.specs.Chain.{least, put_of}

-- the versions of these entries, the greatest stamp first
abbrev pub versions_of : List Entry → List Version
versions_of es = map (λ e. e.version) (reverse es)

-- of these, the newest first, each ends at the first time at which a newer one is seen, where that of those before is `bound`
abbrev pub AreEnded : ℕ → List Entry → Type 0
AreEnded bound [] = ⊤
AreEnded bound (e ∷ es) = (e.end ≡ bound) × (e.version.evt < 2 ^ 48) × AreEnded (least bound e.version.evt) es

-- what follows these, the newest first, ends at `bound`
abbrev pub LeadTo : List Entry → ℕ → Type 0
LeadTo newer bound = (es : List Entry) → AreEnded bound es → AreEnded (2 ^ 48) (newer ++ es)

-- the version goes to this index, or nowhere
abbrev pub IsIndexOf : Version → List Entry → Option ℕ → Type 0
IsIndexOf v es None = put_of (versions_of es) v ≡ versions_of es
IsIndexOf v es (Some i) =
    (i ≤ length es) × (put_of (versions_of es) v ≡ versions_of (drop i es) ++ v ∷ versions_of (take i es))

-- the version of an entry, if it is seen by the time
abbrev pub if_seen : Option Entry → ℕ → Option Version
if_seen None t = None
if_seen (Some e) t = if nat_le e.version.evt t then Some e.version else None
