-- Where a version goes, and what stands at an index.
use Rattle.std.proofs.Common.{◌≡◌, refl, ◌∙◌, ap, sym, ℕ, ◌+◌, ◌<◌, List, [], ◌∷◌, ◌++◌, map, take, drop, length, get_or}
use Rattle.std.specs.Prelude.{reverse}
use Rattle.std.specs.declared.cmp.Ordering.TheVariants.{Less, Equal, Greater}
use Rattle.std.proofs.lemmas.List.{append_assoc, map-append}
use Rattle.logical_time.specs.Stamps.{stamp_cmp}
use Rattle.versions.specs.declared.version.Version.{Version}
use Rattle.versions.specs.declared.entry.Entry.{Entry}
use Rattle.versions.specs.Chain.{put_of}
use Rattle.versions.specs.Ends.{versions_of}
use Rattle.versions.proofs.Reversed.{reverse_drop, reverse_take, reverse_parts}

pub versions_parts : (es : List Entry) (i : ℕ) → versions_of es ≡ versions_of (drop i es) ++ versions_of (take i es)
versions_parts es i =
    ap (map (λ (e : Entry). e.version)) (reverse_parts es i)
    ∙ map-append (λ (e : Entry). e.version) (reverse (drop i es)) (reverse (take i es))

versions_drop : (es : List Entry) (i : ℕ) (d : Entry) → i < length es → versions_of (drop i es) ≡ versions_of (drop (i + 1) es) ++ (get_or es i d).version ∷ []
versions_drop es i d lt =
    ap (map (λ (e : Entry). e.version)) (reverse_drop es i d lt)
    ∙ map-append (λ (e : Entry). e.version) (reverse (drop (i + 1) es)) (get_or es i d ∷ [])

versions_take : (es : List Entry) (i : ℕ) (d : Entry) → i < length es → versions_of (take (i + 1) es) ≡ (get_or es i d).version ∷ versions_of (take i es)
versions_take es i d lt = ap (map (λ (e : Entry). e.version)) (reverse_take es i d lt)

-- the version goes below those of greater stamps, at the index or lower
abbrev pub IsBelow : List Entry → ℕ → Version → Type 0
IsBelow es i v = put_of (versions_of es) v ≡ versions_of (drop i es) ++ put_of (versions_of (take i es)) v

module _ (es : List Entry) (i : ℕ) (e : Entry) (v : Version) (lt : i < length es) (is : e ≡ get_or es i e) where
  top : versions_of (take (i + 1) es) ≡ e.version ∷ versions_of (take i es)
  top = versions_take es i e lt ∙ ap (λ (x : Entry). x.version ∷ versions_of (take i es)) (sym is)

  pub below_less : stamp_cmp v.stamp e.version.stamp ≡ Less → IsBelow es (i + 1) v → IsBelow es i v
  below_less less h =
      let newer = versions_of (drop (i + 1) es) in
      let rest = put_of (versions_of (take i es)) v in
      let first : put_of (e.version ∷ versions_of (take i es)) v ≡ e.version ∷ rest = rw less refl in
      h
      ∙ ap (λ (xs : List Version). newer ++ xs) (ap (λ (xs : List Version). put_of xs v) top ∙ first)
      ∙ sym (append_assoc newer (e.version ∷ []) rest)
      ∙ ap (λ (xs : List Version). xs ++ rest) (ap (λ (x : Entry). newer ++ x.version ∷ []) is ∙ sym (versions_drop es i e lt))

  pub below_equal : stamp_cmp v.stamp e.version.stamp ≡ Equal → IsBelow es (i + 1) v → put_of (versions_of es) v ≡ versions_of es
  below_equal equal h =
      let newer = versions_of (drop (i + 1) es) in
      let first : put_of (e.version ∷ versions_of (take i es)) v ≡ e.version ∷ versions_of (take i es) = rw equal refl in
      h
      ∙ ap (λ (xs : List Version). newer ++ xs) (ap (λ (xs : List Version). put_of xs v) top ∙ first ∙ sym top)
      ∙ sym (versions_parts es (i + 1))

  pub below_greater : stamp_cmp v.stamp e.version.stamp ≡ Greater → IsBelow es (i + 1) v → put_of (versions_of es) v ≡ versions_of (drop (i + 1) es) ++ v ∷ versions_of (take (i + 1) es)
  below_greater greater h =
      let newer = versions_of (drop (i + 1) es) in
      let first : put_of (e.version ∷ versions_of (take i es)) v ≡ v ∷ e.version ∷ versions_of (take i es) = rw greater refl in
      h
      ∙ ap (λ (xs : List Version). newer ++ xs) (ap (λ (xs : List Version). put_of xs v) top ∙ first ∙ ap (λ (xs : List Version). v ∷ xs) (sym top))
