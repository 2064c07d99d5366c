-- The actors of a world before their first events.
use Rattle.std.proofs.Common.{◌≡◌, ◌∙◌, ℕ, zero, suc, ◌+◌, ◌<◌, Bool, true, false, List, [], ◌∷◌, ◌++◌, length, length-append, slice_get, Some, ◌⊎◌, inl, inr, refl, sym, ap, subst, arith}
use Rattle.std.proofs.lemmas.Bool.Decides.{nat_tests}
use Rattle.logical_time.specs.declared.fault.Fault.{Fault}
use Rattle.messages.specs.Topology.{TopologyValue, is_shard, shard_count}
use Rattle.messages.specs.Shard.{new_shard}
use Rattle.shard.specs.declared.kept.ShardKept.{ShardKept}
use Rattle.shard.specs.Kept as shard
use Rattle.world.specs.declared.station.Station.{Station}
use Rattle.world.specs.Run.{opening}
use Rattle.world.specs.Holds.{AreShards, Sits, AreStations}

-- these are the first so many, each by its place
pub record AreFirst {X : Type 0} (P : ℕ → X → Type 0) (n : ℕ) (xs : List X) : Type 0 where
  pub len : length xs ≡ n
  pub each : (i : ℕ) (x : X) → slice_get xs i ≡ Some x → P i x

pub none_yet : {X : Type 0} (P : ℕ → X → Type 0) → AreFirst P 0 []
none_yet P = record { len = refl; each = λ i x at. absurd (cc) }

last_or_before : {X : Type 0} (xs : List X) (x y : X) (i : ℕ) → slice_get (xs ++ x ∷ []) i ≡ Some y → (slice_get xs i ≡ Some y) ⊎ ((i ≡ length xs) × (x ≡ y))
last_or_before [] x y zero at = let same : x ≡ y = cc in inr (refl, same)
last_or_before [] x y (suc i) at = absurd (cc)
last_or_before (z ∷ xs) x y zero at = inl at
last_or_before (z ∷ xs) x y (suc i) at = elim (last_or_before xs x y i at) [ inl old ↦ inl old | inr new ↦ inr (ap suc new.0, new.1) ]

pub one_more : {X : Type 0} (P : ℕ → X → Type 0) (n : ℕ) (xs : List X) (x : X) → AreFirst P n xs → P n x → AreFirst P (n + 1) (xs ++ x ∷ [])
one_more P n xs x are is =
    record {
      len = length-append xs (x ∷ []) ∙ ap (λ m. m + 1) are.len;
      each = λ i y at. elim (last_or_before xs x y i at) [
        | inl old ↦ are.each i y old
        | inr new ↦ subst (λ z. P i z) new.1 (subst (λ j. P j x) (sym (new.0 ∙ are.len)) is)
      ];
    }

-- ## Shards

abbrev pub Begins : TopologyValue → ℕ → ShardKept → Type 0
Begins top i k = shard.Represents top i k new_shard

pub shards_begin : (top : TopologyValue) (n : ℕ) (xs : List ShardKept) → n ≡ shard_count top → AreFirst (Begins top) n xs → AreShards top (λ node. new_shard) xs
shards_begin top n xs e are = record { len = are.len ∙ e; each = are.each }

pub node_is_shard : (top : TopologyValue) (node n : ℕ) → n ≡ shard_count top → node < n → is_shard top node ≡ true
node_is_shard top node n e lt = grind (arith, nat_tests)

-- ## Sessions

abbrev pub SitsFirst : TopologyValue → ℕ → Station → Type 0
SitsFirst top i s = Sits (opening top) top (shard_count top + i) s

pub stations_begin : (top : TopologyValue) (n : ℕ) (xs : List Station) → n ≡ length top.homes → AreFirst (SitsFirst top) n xs → AreStations (opening top) top xs
stations_begin top n xs e are = record { len = are.len ∙ e; each = are.each }
