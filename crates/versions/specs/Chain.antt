-- Chains of versions, and which of them is the newest at a time.
use Rattle.std.specs.Prelude.{◌≡◌, ℕ, zero, suc, ◌-◌, Bool, true, ◌&&◌, if◌then◌else◌, nat_le, nat_lt, List, [], ◌∷◌, Option, Some, None, find, ⊤}
use Rattle.std.specs.Ordering.{is_eq}
use Rattle.logical_time.specs.Stamps.{StampValue, stamp_cmp, is_older}
use Rattle.versions.specs.declared.version.Version.{Version}

-- the versions that are held, the greatest stamp first, and how many more fit without memory
pub record Held : Type 0 where
  pub versions : List Version
  pub room : ℕ

-- each version is older than the stamp
abbrev pub AreOlder : StampValue → List Version → Type 0
AreOlder s [] = ⊤
AreOlder s (x ∷ xs) = (is_older x.stamp s ≡ true) × AreOlder s xs

-- the stamps fall strictly
abbrev pub IsFalling : List Version → Type 0
IsFalling [] = ⊤
IsFalling (x ∷ xs) = AreOlder x.stamp xs × IsFalling xs

-- the versions with one more in its place, or as they are where its stamp is held
abbrev pub put_of : List Version → Version → List Version
put_of [] v = v ∷ []
put_of (x ∷ xs) v =
    if is_older v.stamp x.stamp then x ∷ put_of xs v
    else (if is_eq (stamp_cmp v.stamp x.stamp) then x ∷ xs else v ∷ x ∷ xs)

-- the version of the greatest stamp among those that are seen by a time
abbrev pub at_of : List Version → ℕ → Option Version
at_of xs t = find (λ v. nat_le v.evt t) xs

-- the lesser of a bound and a time
abbrev pub least : ℕ → ℕ → ℕ
least bound evt = if nat_lt evt bound then evt else bound

-- the times from one on and before a bound: the first and the last, if there are any
abbrev pub interval_if : Bool → ℕ → ℕ → Option (ℕ × ℕ)
interval_if b evt bound = if b then Some (evt, bound - 1) else None

-- the times at which the version at a place is the newest, where a newer one is seen from `bound` on
abbrev pub interval_of : ℕ → List Version → ℕ → Option (ℕ × ℕ)
interval_of bound [] i = None
interval_of bound (x ∷ xs) zero = interval_if (nat_lt x.evt bound) x.evt bound
interval_of bound (x ∷ xs) (suc i) = interval_of (least bound x.evt) xs i

-- the version is the newest at a time from `t` on, where a newer one is seen from `bound` on
abbrev pub is_kept : ℕ → ℕ → ℕ → Bool
is_kept t bound evt = nat_lt evt bound && nat_lt t bound

-- what stays of the versions below one that is seen from `bound` on
abbrev pub kept_below : ℕ → ℕ → List Version → List Version
kept_below t bound [] = []
kept_below t bound (x ∷ xs) = if is_kept t bound x.evt then x ∷ kept_below t x.evt xs else kept_below t bound xs

-- the versions without those that are the newest at no time from `t` on
abbrev pub kept_from : ℕ → List Version → List Version
kept_from t [] = []
kept_from t (x ∷ xs) = x ∷ kept_below t x.evt xs
