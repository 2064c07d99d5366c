-- What a sender's end keeps, and how many bytes that has.
use Rattle.std.proofs.Common.{◌≡◌, ◌∙◌, ◌<◌, ℕ, ◌+◌, ◌-◌, max, drop, List, [], ◌∷◌, ◌++◌, length, ap, sym, arith}
use Rattle.std.specs.Prelude.{map}
use Rattle.std.specs.Global.{Vec}
use Rattle.std.proofs.lemmas.List.{map-append, drop-map}
use Rattle.peers.specs.Ends.{OutboundValue, bytes_of, acknowledged}

-- what is kept from a number on
abbrev pub kept_as : ℕ → List (List ℕ) → OutboundValue
kept_as first kept = record { first = first; kept = kept }

-- one parcel more
pub bytes_more : (parcels : List (List ℕ)) (parcel : List ℕ) → bytes_of (parcels ++ parcel ∷ []) ≡ bytes_of parcels + length parcel
bytes_more [] parcel = omega arith
bytes_more (p ∷ parcels) parcel = let h = bytes_more parcels parcel in omega (arith, h)

pub bytes_put : (kept : List (Vec ℕ)) (parcel : Vec ℕ) → bytes_of (map (λ (p : Vec ℕ). p.items) (kept ++ parcel ∷ [])) ≡ bytes_of (map (λ (p : Vec ℕ). p.items) kept) + length parcel.items
bytes_put kept parcel = ap bytes_of (map-append (λ (p : Vec ℕ). p.items) kept (parcel ∷ [])) ∙ bytes_more (map (λ (p : Vec ℕ). p.items) kept) parcel.items

-- without the first
pub bytes_without : (old new : List (Vec ℕ)) (parcel : Vec ℕ) → old ≡ parcel ∷ new → bytes_of (map (λ (p : Vec ℕ). p.items) old) ≡ length parcel.items + bytes_of (map (λ (p : Vec ℕ). p.items) new)
bytes_without old new parcel is = ap (λ (ps : List (Vec ℕ)). bytes_of (map (λ (p : Vec ℕ). p.items) ps)) is

-- what is kept once those below a number aren't any more
pub acknowledged_kept : (first below : ℕ) (kept new : List (Vec ℕ)) → first < below → new ≡ drop (below - first) kept
    → kept_as below (map (λ (p : Vec ℕ). p.items) new) ≡ acknowledged below (kept_as first (map (λ (p : Vec ℕ). p.items) kept))
acknowledged_kept first below kept new lt is =
    let later : below ≡ max first below = omega (arith, lt) in
    let rest : map (λ (p : Vec ℕ). p.items) new ≡ drop (below - first) (map (λ (p : Vec ℕ). p.items) kept) = ap (map (λ (p : Vec ℕ). p.items)) is ∙ sym (drop-map (λ (p : Vec ℕ). p.items) (below - first) kept) in
    ap (λ n. kept_as n (map (λ (p : Vec ℕ). p.items) new)) later ∙ ap (λ (ps : List (List ℕ)). kept_as (max first below) ps) rest
