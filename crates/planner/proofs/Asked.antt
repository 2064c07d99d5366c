-- Keys that are asked, each once, and the keys of each shard.
use Rattle.std.proofs.Common.{◌≡◌, ◌≢◌, ◌∙◌, ℕ, ◌<◌, ap, sym, subst, refl, Bool, true, false, List, [], ◌∷◌, map, length, sum, eqb-true, eq-eqb}
use Rattle.std.specs.Prelude.{◌||◌, not, nat_lt}
use Rattle.std.specs.List.{All, Contains, filter, list_any, range_with_len}
use Rattle.std.specs.Str.{bytes_eq}
use Rattle.std.proofs.lemmas.List.Elements.{All-map, All-weaker, filter_passes}
use Rattle.std.proofs.lemmas.Map.Views.{any-filter_same}
use Rattle.std.proofs.lemmas.Nat.{mod_below}
use Rattle.std.proofs.lemmas.Slice.Eq.{bytes_eq-Decides}
use Rattle.table.specs.Meaning.{each_once}
use Rattle.planner.specs.declared.reads.ShardKeys.{ShardKeys}
use Rattle.planner.specs.Partition.{shard_of}
use Rattle.planner.specs.Plan.{is_on, keys_for, shards_asked}
use Rattle.planner.specs.Planned.{keys_on, IsKeyCut}
use Rattle.planner.proofs.Lists.{kept_any}
use Rattle.planner.proofs.Members.{all_members, contains_map, contains_filter, filter_contains, contains_any, first_found, contains_below}

kept_apart : (p : List ℕ → Bool) (k j : List ℕ) → p k ≡ false → p j ≡ true → not (bytes_eq k j) ≡ true
kept_apart p k j other passes = go (bytes_eq k j) refl
  where
    go : (b : Bool) → bytes_eq k j ≡ b → not b ≡ true
    go true e = let same = ap p ((bytes_eq-Decides k j).0 e) in absurd (cc)
    go false e = refl

-- a key that passes a test is still there once
pub each_once_any : (p : List ℕ → Bool) (ks : List (List ℕ)) → list_any p (each_once ks) ≡ list_any p ks
each_once_any p [] = refl
each_once_any p (k ∷ ks) = go (p k) refl (each_once_any p ks)
  where
    go : (b : Bool) → p k ≡ b → list_any p (each_once ks) ≡ list_any p ks → (b || list_any p (filter (λ j. not (bytes_eq k j)) (each_once ks))) ≡ (b || list_any p ks)
    go true e ih = refl
    go false e ih = any-filter_same p (λ j. not (bytes_eq k j)) true (λ j h. kept_apart p k j e h) (each_once ks) ∙ ih

-- a test keeps a key of those that are asked, each once, exactly where one of those listed passes it
pub kept_asked : (p : List ℕ → Bool) (ks : List (List ℕ)) → nat_lt 0 (length (filter p (each_once ks))) ≡ list_any p ks
kept_asked p ks = kept_any p (each_once ks) ∙ each_once_any p ks

-- ---- the keys that are asked are those that are listed
key_test : (j k : List ℕ) → bytes_eq j k ≡ true → j ≡ k
key_test j k e = (bytes_eq-Decides j k).0 e

pub once_contains : (ks : List (List ℕ)) (k : List ℕ) → Contains ks k → Contains (each_once ks) k
once_contains ks k has =
    let here = contains_any (λ j. bytes_eq j k) ks k has ((bytes_eq-Decides k k).1 refl) in
    let found = first_found (λ j. bytes_eq j k) (each_once ks) (each_once_any (λ j. bytes_eq j k) ks ∙ here) in
    subst (λ j. Contains (each_once ks) j) (key_test found.0 k found.3) found.2

pub contains_once : (ks : List (List ℕ)) (k : List ℕ) → Contains (each_once ks) k → Contains ks k
contains_once ks k has =
    let here = contains_any (λ j. bytes_eq j k) (each_once ks) k has ((bytes_eq-Decides k k).1 refl) in
    let found = first_found (λ j. bytes_eq j k) ks (sym (each_once_any (λ j. bytes_eq j k) ks) ∙ here) in
    subst (λ j. Contains ks j) (key_test found.0 k found.3) found.2

-- ---- the keys of the shards
pub own_key : (shards s : ℕ) (ks : List (List ℕ)) (k : List ℕ) → Contains (keys_for shards ks s) k → (shard_of shards k ≡ s) × Contains ks k
own_key shards s ks k has =
    let m = filter_contains (is_on shards s) (each_once ks) k has in
    (eqb-true (shard_of shards k) s m.1, contains_once ks k m.0)

pub asked_key : (shards : ℕ) (ks : List (List ℕ)) (k : List ℕ) → Contains ks k → Contains (keys_for shards ks (shard_of shards k)) k
asked_key shards ks k has = contains_filter (is_on shards (shard_of shards k)) (each_once ks) k (once_contains ks k has) (eq-eqb (shard_of shards k) (shard_of shards k) refl)

pub asked_shard : (shards : ℕ) (ks : List (List ℕ)) (k : List ℕ) → 0 < shards → Contains ks k → Contains (shards_asked shards ks) (shard_of shards k)
asked_shard shards ks k some has =
    let s = shard_of shards k in
    contains_filter (λ t. list_any (is_on shards t) ks) (range_with_len 0 shards) s (contains_below shards s (mod_below (sum k) shards some))
    (contains_any (is_on shards s) ks k has (eq-eqb s s refl))

-- they cut the keys that a read lists
pub keys_cut : (shards : ℕ) (ks : List (List ℕ)) (parts : List ShardKeys) → 0 < shards → parts ≡ map (keys_on shards ks) (shards_asked shards ks) → IsKeyCut shards ks parts
keys_cut shards ks parts some e = subst (λ ps. IsKeyCut shards ks ps) (sym e) (record {
  full = All-map (λ p. p.keys ≢ []) (keys_on shards ks) (shards_asked shards ks)
      (All-weaker (λ s. list_any (is_on shards s) ks ≡ true) (λ s. keys_for shards ks s ≢ []) (λ s h. full s h) (shards_asked shards ks) (filter_passes (λ s. list_any (is_on shards s) ks) (range_with_len 0 shards)));
  whole = λ k has. (
    keys_on shards ks (shard_of shards k),
    contains_map (keys_on shards ks) (shards_asked shards ks) (shard_of shards k) (asked_shard shards ks k some has),
    refl,
    asked_key shards ks k has,
  );
  own = All-map (λ p. All (λ k. (shard_of shards k ≡ p.shard) × Contains ks k) p.keys) (keys_on shards ks) (shards_asked shards ks)
      (all_members (λ s. All (λ k. (shard_of shards k ≡ s) × Contains ks k) (keys_for shards ks s)) (shards_asked shards ks)
      (λ s has. all_members (λ k. (shard_of shards k ≡ s) × Contains ks k) (keys_for shards ks s) (λ k own. own_key shards s ks k own)));
})
  where
    full : (s : ℕ) → list_any (is_on shards s) ks ≡ true → keys_for shards ks s ≢ []
    full s h empty = let some = sym (kept_asked (is_on shards s) ks) ∙ ap (λ js. nat_lt 0 (length js)) empty in cc
