-- What a collection keeps of a chain, and what is seen whatever is put and collected.
use Rattle.std.specs.Prelude.{◌≡◌, ℕ, ◌≤◌, max, List, [], ◌∷◌, Some, ⊤}
use Rattle.versions.specs.declared.version.Version.{Version}
use Rattle.versions.specs.Chain.{put_of, at_of, kept_from}
use Rattle.versions.specs.Newest.{has_stamp}

-- the version is the newest of these at some time from `t` on
abbrev pub IsNewestFrom : ℕ → List Version → Version → Type 0
IsNewestFrom t xs v = (at : ℕ) × (t ≤ at) × (at_of xs at ≡ Some v)

-- what is done with a chain: a put, or a collection
pub data Deed : Type 0 where
  Put : (version : Version) → Deed
  Collect : (time : ℕ) → Deed

-- what is held after these
abbrev pub held_after : List Version → List Deed → List Version
held_after held [] = held
held_after held (Put v ∷ deeds) = held_after (put_of held v) deeds
held_after held (Collect t ∷ deeds) = held_after (kept_from t held) deeds

-- every version that these add, with what was added before
abbrev pub added_by : List Version → List Deed → List Version
added_by added [] = added
added_by added (Put v ∷ deeds) = added_by (put_of added v) deeds
added_by added (Collect t ∷ deeds) = added_by added deeds

-- the greatest time of the collections among these, or 0
abbrev pub collected_to : List Deed → ℕ
collected_to [] = 0
collected_to (Put v ∷ deeds) = collected_to deeds
collected_to (Collect t ∷ deeds) = max t (collected_to deeds)

-- no version is put whose stamp was added before and then dropped
abbrev pub NoneComesBack : List Version → List Version → List Deed → Type 0
NoneComesBack held added [] = ⊤
NoneComesBack held added (Put v ∷ deeds) =
    (has_stamp held v.stamp ≡ has_stamp added v.stamp) × NoneComesBack (put_of held v) (put_of added v) deeds
NoneComesBack held added (Collect t ∷ deeds) = NoneComesBack (kept_from t held) added deeds
