-- A session that hears a message sends only what is of a lower rank and costs less.
use Rattle.std.proofs.Common.{◌≡◌, ℕ, ◌+◌, ◌*◌, ◌<◌, ◌≤◌, List, ◌∷◌, [], length, map, sym, subst, arith, le_refl}
use Rattle.std.specs.List.{list_any, range_with_len}
use Rattle.std.proofs.Math.Nat.{mul-le-mul_right}
use Rattle.std.proofs.lemmas.List.{length-map}
use Rattle.std.proofs.lemmas.List.FromFn.{length-range_with_len}
use Rattle.slice.specs.declared.read.Read.{Read}
use Rattle.messages.specs.declared.body.Body.{Body}
use Rattle.messages.specs.declared.envelope.Envelope.{Envelope}
use Rattle.messages.specs.Topology.{TopologyValue}
use Rattle.messages.specs.Session.{SessionState, HeardNow}
use Rattle.messages.specs.Rounds.{asked_nodes, effective_time, is_late, late_nodes}
use Rattle.messages.specs.Submitting.{home_node}
use Rattle.messages.specs.SessionEvents.{read_at_of as ask_at, heard}
use Rattle.planner.specs.Plan.{shards_asked, is_on}
use Rattle.world.specs.Drains.{rank, Sizes, cost_of_read_at, cost, cost_of_all}
use Rattle.world.proofs.drains.NewDecisions.{filter_short}
use Rattle.world.proofs.drains.Costs.{Low, low_none, low_map, cost_some, cost_each}
use Rattle.world.proofs.steps.HeardCases.{with_rows_now, heard_cases}

-- what is sent is of a lower rank, and costs less
abbrev pub Sinks : TopologyValue → Sizes → ℕ → ℕ → List Envelope → Type 0
Sinks top s r c sends = Low r sends × (cost_of_all top s sends + 1 ≤ c)

module _ (top : TopologyValue) (s : Sizes) (me n : ℕ) (a : SessionState) where
  silent : (r c : ℕ) → 0 < c → Sinks top s r c []
  silent r c some = (low_none r, omega arith)

  late_count : (read : Read) (time : ℕ) (hs : List HeardNow) → length (late_nodes (asked_nodes top a read) time hs) ≤ top.shards
  late_count read time hs =
      let late = filter_short (is_late time hs) (asked_nodes top a read) in
      let nodes : length (asked_nodes top a read) ≡ length (shards_asked top.shards read.keys) = length-map (shards_asked top.shards read.keys) (home_node top a) in
      let asked = filter_short (λ c. list_any (is_on top.shards c) read.keys) (range_with_len 0 top.shards) in
      let all = length-range_with_len 0 top.shards in
      omega arith

  second_sinks : (read : Read) (time : ℕ) (hs : List HeardNow) (late : List ℕ) → late_nodes (asked_nodes top a read) time hs ≡ late
      → Sinks top s 7 (1 + top.shards * cost_of_read_at top s) (map (ask_at me n a read time hs) late)
  second_sinks read time hs late e =
      let each = cost_each top s (ask_at me n a read time hs) (cost_of_read_at top s) late (λ z. le_refl (cost_of_read_at top s)) in
      let all = mul-le-mul_right (cost_of_read_at top s) (subst (λ l. length l ≤ top.shards) e (late_count read time hs)) in
      (low_map 7 (ask_at me n a read time hs) late (λ z. omega arith), omega arith)

  pub heard_sinks : (from : ℕ) (b : Body) → Sinks top s (rank b) (cost top s b) (heard top me n a from b).sends
  heard_sinks from b =
      let none = silent (rank b) (cost top s b) (cost_some top s b) in
      heard_cases top me n a from b (λ st. Sinks top s (rank b) (cost top s b) st.sends)
      (record {
        still = λ ignored. none;
        wrote = λ coordinator t commit stamp k. none;
        kept = λ read hs rows k some. none;
        second =
            λ read hs rows k all x xs e.
            let gs = with_rows_now hs from rows in
            let time = effective_time a.floor gs in
            subst (λ m. Sinks top s (rank m) (cost top s m) (map (ask_at me n a read time gs) (x ∷ xs))) (sym k.body) (second_sinks read time gs (x ∷ xs) e);
        ends = λ read hs rows k all e. none;
        kept_at = λ read time first hs rows k some. none;
        ends_at = λ read time first hs rows k all. none;
        gives_up = λ read time first hs k. none;
        counted = λ dc left floor dependency commit k u us e. none;
        arrives = λ dc left floor dependency commit k e. none;
      })
