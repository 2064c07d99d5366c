-- What callers count on: which version is the newest, at which times, and what is held.
use Rattle.std.specs.Prelude.{◌≡◌, ℕ, ◌≤◌, Bool, false, if◌then◌else◌, nat_le, List, Option, Some, None, MatchOption, Contains, slice_get}
use Rattle.std.specs.List.{list_any}
use Rattle.std.specs.Ordering.{is_eq}
use Rattle.logical_time.specs.Stamps.{StampValue, stamp_cmp, is_older}
use Rattle.versions.specs.declared.version.Version.{Version}
use Rattle.versions.specs.Chain.{at_of}

-- the version is held, and none that is held has a greater stamp
abbrev pub IsNewest : List Version → Version → Type 0
IsNewest xs v = Contains xs v × ((w : Version) → Contains xs w → is_older v.stamp w.stamp ≡ false)

-- the version is held and seen by the time, and none that is has a greater stamp
abbrev pub IsNewestAt : List Version → ℕ → Version → Type 0
IsNewestAt xs t v = Contains xs v × (v.evt ≤ t) × ((w : Version) → Contains xs w → w.evt ≤ t → is_older v.stamp w.stamp ≡ false)

-- whether a version of the stamp is held
abbrev pub has_stamp : List Version → StampValue → Bool
has_stamp xs s = list_any (λ x. is_eq (stamp_cmp s x.stamp)) xs

-- of a version and one that was found, the newer
abbrev pub newer_of : Version → Option Version → Option Version
newer_of v None = Some v
newer_of v (Some u) = if is_older u.stamp v.stamp then Some v else Some u

-- the newest at a time once a version is put: it counts where its stamp is new and it is seen by the time
abbrev pub at_with : List Version → Version → ℕ → Option Version
at_with xs v t =
    if has_stamp xs v.stamp then at_of xs t
    else (if nat_le v.evt t then newer_of v (at_of xs t) else at_of xs t)

-- the time is neither before the first time nor after the last
abbrev pub IsWithin : Option (ℕ × ℕ) → ℕ → Type 0
IsWithin None t = ⊥
IsWithin (Some times) t = (times.0 ≤ t) × (t ≤ times.1)

-- there is a version at this place, and it is the newest at the time
abbrev pub IsPlaceNewestAt : List Version → ℕ → ℕ → Type 0
IsPlaceNewestAt xs place t = MatchOption (slice_get xs place) ⊥ (λ v. at_of xs t ≡ Some v)
