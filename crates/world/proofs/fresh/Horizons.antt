-- The horizon that a shard keeps is the greatest time of its collections.
use Rattle.std.proofs.Common.{◌≡◌, ◌∙◌, ℕ, max, ap, sym, refl, Bool, true, false, cond, List, [], ◌∷◌, ◌++◌, map, arith, eq-eqb, eqb-true}
use Rattle.std.specs.Prelude.{◌==◌}
use Rattle.store.specs.Part.{greatest_of}
use Rattle.messages.specs.Topology.{TopologyValue}
use Rattle.messages.specs.Shard.{ShardState}
use Rattle.world.specs.Run.{Run, RunEvent, Submit, Collect, opening, step, continued, run}
use Rattle.world.specs.Met.{time_collected, horizon}
use Rattle.world.specs.Collected.{HorizonsAreOfCollections}
use Rattle.world.proofs.steps.EventCases.{event_cases}
use Rattle.world.proofs.fresh.HeardRuns.{changed_actor}
use Rattle.world.proofs.steps.OwnSends.{handled_low}

greatest_push : (f : RunEvent → ℕ) (xs : List RunEvent) (x : RunEvent) → greatest_of (map f (xs ++ x ∷ [])) ≡ max (greatest_of (map f xs)) (f x)
greatest_push f [] x = omega arith
greatest_push f (y ∷ ys) x = let ih = greatest_push f ys x in omega arith

-- an event that isn't a collection on the shard leaves its horizon
same_horizon : (w : Run) (x : RunEvent) (node low : ℕ) → low ≡ horizon w node → time_collected node x ≡ 0
    → low ≡ greatest_of (map (time_collected node) (w.events ++ x ∷ []))
same_horizon w x node low is none = let p = greatest_push (time_collected node) w.events x in omega arith

module _ (w : Run) (x : RunEvent) (m time : ℕ) (k : HorizonsAreOfCollections w) (is : x ≡ Collect m time) where
  of_another : (node : ℕ) → (node == m) ≡ false → (b : Bool) → (m == node) ≡ b → cond b time 0 ≡ 0
  of_another node other false e = refl
  of_another node other true e = let same = eq-eqb node m (sym (eqb-true m node e)) in absurd (cc)

  other_shard : (node : ℕ) → (node == m) ≡ false → (w.shards node).low ≡ greatest_of (map (time_collected node) (w.events ++ x ∷ []))
  other_shard node other = same_horizon w x node (w.shards node).low (k node) (ap (time_collected node) is ∙ of_another node other (m == node) refl)

  own_shard : (node : ℕ) → node ≡ m → max (w.shards m).low time ≡ greatest_of (map (time_collected node) (w.events ++ x ∷ []))
  own_shard node same =
      let p = greatest_push (time_collected node) w.events x in
      let now : time_collected node x ≡ time = ap (time_collected node) is ∙ ap (λ b. cond b time 0) (eq-eqb m node (sym same)) in
      let before = k node in
      let low : (w.shards m).low ≡ (w.shards node).low = ap (λ z. (w.shards z).low) (sym same) in
      omega arith

step_horizons : (top : TopologyValue) (w : Run) (x : RunEvent) → HorizonsAreOfCollections w → HorizonsAreOfCollections (step top w x)
step_horizons top w x k =
    event_cases top w x HorizonsAreOfCollections
    (record {
      nothing = k;
      handled =
          λ j e n is sent to node.
          same_horizon w x node _
          (changed_actor (λ (a : ShardState). a.low ≡ horizon w node) w.shards e.to _ node
          (λ same. handled_low top e.to n (w.shards e.to) e.from e.body ∙ ap (λ z. (w.shards z).low) (sym same) ∙ k node) (λ other. k node))
          (ap (time_collected node) is);
      heard = λ j e n is sent other to node. same_horizon w x node (w.shards node).low (k node) (ap (time_collected node) is);
      begun = λ m o n is to node. same_horizon w (Submit m o) node (w.shards node).low (k node) refl;
      collected =
          λ m time n is node.
          changed_actor (λ (a : ShardState). a.low ≡ greatest_of (map (time_collected node) (w.events ++ x ∷ []))) w.shards m _ node
          (own_shard w x m time k is node) (other_shard w x m time k is node);
    })

horizons_later : (top : TopologyValue) (w : Run) (xs : List RunEvent) → HorizonsAreOfCollections w → HorizonsAreOfCollections (continued top w xs)
horizons_later top w [] k = k
horizons_later top w (x ∷ xs) k = horizons_later top (step top w x) xs (step_horizons top w x k)

pub horizons_are_of_collections : (top : TopologyValue) (events : List RunEvent) → HorizonsAreOfCollections (run top events)
horizons_are_of_collections top events = horizons_later top (opening top) events (λ node. refl)
