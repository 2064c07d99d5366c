-- What it is that a shard's step descends, and that a decision and reads let go do.
use Rattle.std.proofs.Common.{◌≡◌, ℕ, ◌+◌, ◌*◌, ◌<◌, ◌≤◌, Bool, true, not, List, [], ◌∷◌, ◌++◌, map, length, Option, Some, None, ◌⊎◌, inr, refl, arith, le_refl}
use Rattle.std.specs.Prelude.{filter, ◌==◌, Contains}
use Rattle.std.specs.List.{range_with_len}
use Rattle.std.proofs.Math.Nat.{mul-le-mul_right}
use Rattle.std.proofs.lemmas.List.{length-map}
use Rattle.std.proofs.lemmas.List.Filters.{length-filter_both}
use Rattle.std.proofs.lemmas.List.FromFn.{length-range_with_len}
use Rattle.logical_time.specs.Stamps.{StampValue, TxnValue, WriterValue}
use Rattle.slice.specs.declared.read.Read.{Read}
use Rattle.messages.specs.declared.body.Body.{Body}
use Rattle.messages.specs.declared.body.Body.TheVariants.{Begin, Commit, ReplBegin, DepOk, Done}
use Rattle.messages.specs.declared.envelope.Envelope.{Envelope}
use Rattle.messages.specs.Topology.{TopologyValue, dc_of, shard_of, shard_node}
use Rattle.messages.specs.Words.{is_same_txn, envelope, other_dcs}
use Rattle.messages.specs.Shard.{ShardState, ShardStep, BegunBallot, Decision, KeptBallot, Asker, WaitingRead}
use Rattle.messages.specs.Reads.{part_at, lessened, is_free, let_go, asked_below}
use Rattle.messages.specs.Commits.{applied_part, stamp_for, commits, announcements, dep_oks, decide}
use Rattle.world.specs.Drains.{Sizes, cost_of_notice, cost_of_part, cost_of_commit, cost_of_ballot, cost_of_all, cost_of_decision, cost_of_waiting}
use Rattle.world.proofs.safety.Facts.{DecidedOnce}
use Rattle.world.proofs.drains.NewDecisions.{filter_short, undecided, asked_for}
use Rattle.world.proofs.drains.Costs.{Low, low_map, low_both, cost_each, cost_both, cost_cons, cost_three}

-- ## Descents

pub other_count : (top : TopologyValue) (me : ℕ) → length (other_dcs top me) ≤ top.dcs
other_count top me =
    let short = filter_short (λ d. not (d == dc_of top me)) (range_with_len 0 top.dcs) in let all = length-range_with_len 0 top.dcs in omega arith

-- a ballot has no more cohorts than there are shards, and no more dependencies than the longest list
abbrev pub Fits : TopologyValue → Sizes → List ℕ → List WriterValue → Type 0
Fits top s cohorts dependencies = (length cohorts ≤ top.shards) × (length dependencies ≤ s.dependencies)

-- so of what a shard keeps, and a read asks for no more transactions than were submitted
pub record AreWithin (top : TopologyValue) (s : Sizes) (a : ShardState) : Type 0 where
  pub ballots : (b : BegunBallot) → Contains a.ballots b → Fits top s b.cohorts b.dependencies
  pub kept : (r : KeptBallot) → Contains a.kept_ballots r → Fits top s r.cohorts r.dependencies
  pub asked : (time : ℕ) (read : Read) → length (asked_below a time read) ≤ s.operations

-- and of a message
abbrev pub IsWithin : TopologyValue → Sizes → Body → Type 0
IsWithin top s (Begin t rows cohorts dependencies) = Fits top s cohorts dependencies
IsWithin top s (ReplBegin cohorts t rows stamp dependencies) = Fits top s cohorts dependencies
IsWithin top s other = Unit {0}

-- what a step leaves to do costs less than this and what waited
abbrev pub Leaves : TopologyValue → Sizes → ShardState → ℕ → ShardStep → Type 0
Leaves top s a c st = cost_of_all top s st.sends + cost_of_waiting top st.state + 1 ≤ c + cost_of_waiting top a

abbrev pub Descends : TopologyValue → Sizes → ShardState → ℕ → ℕ → ShardStep → Type 0
Descends top s a r c st =
    ((st.state.decided ≡ a.decided) × Low r st.sends × Leaves top s a c st)
    ⊎ ((d : Decision) × (st.state.decided ≡ a.decided ++ d ∷ []) × (DecidedOnce st.state.decided → Leaves top s a (c + cost_of_decision top s) st))

module _ (top : TopologyValue) (s : Sizes) where
  pub let_go_costs : (me n : ℕ) (b : ShardState) (t : TxnValue) (p : WaitingRead → Bool) (sends : List Envelope)
      → cost_of_all top s (let_go me n b t p sends).sends + length (let_go me n b t p sends).state.waiting ≤ cost_of_all top s sends + length b.waiting
  let_go_costs me n b t p sends =
      let all = lessened t p b.waiting in
      let count : length all ≡ length b.waiting = length-map b.waiting _ in
      let split = length-filter_both is_free (λ x. not (is_free x)) (λ x. refl) all in
      let both = cost_both top s sends (map (part_at me n b) (filter is_free all)) in
      let answers = cost_each top s (part_at me n b) 1 (filter is_free all) (λ x. le_refl 1) in
      omega arith

  pub let_go_low : (me n : ℕ) (b : ShardState) (r : ℕ) (t : TxnValue) (p : WaitingRead → Bool) (sends : List Envelope) → 0 < r → Low r sends
      → Low r (let_go me n b t p sends).sends
  let_go_low me n b r t p sends lt l = low_both r sends _ l (low_map r (part_at me n b) (filter is_free (lessened t p b.waiting)) (λ x. lt))

  announced : (me n : ℕ) (b : BegunBallot) (o : Option StampValue) → length b.dependencies ≤ s.dependencies
      → cost_of_all top s (announcements top me n b o) ≤ 1 + top.dcs * cost_of_ballot top s.dependencies
  announced me n b (Some stamp) le = omega arith
  announced me n b None le =
      let begins = map (λ d. envelope me (shard_node top d (shard_of top me)) n (ReplBegin b.cohorts b.txn b.rows (stamp_for me n None) b.dependencies)) (other_dcs top me) in
      let split = cost_cons top s (envelope me b.txn.session n (Done b.txn n (stamp_for me n None))) begins in
      let fewer = mul-le-mul_right (cost_of_part top) le in
      let less : cost_of_ballot top (length b.dependencies) ≤ cost_of_ballot top s.dependencies = omega arith in
      let each =
      cost_each top s (λ d. envelope me (shard_node top d (shard_of top me)) n (ReplBegin b.cohorts b.txn b.rows (stamp_for me n None) b.dependencies))
      (cost_of_ballot top s.dependencies) (other_dcs top me) (λ d. less) in
      let all = mul-le-mul_right (cost_of_ballot top s.dependencies) (other_count top me) in
      omega arith

  -- what a decision sends, but for the reads that it lets go
  decided_costs : (me n : ℕ) (b : BegunBallot) (askers : List Asker) → Fits top s b.cohorts b.dependencies
      → cost_of_all top s (commits top me n b.txn (stamp_for me n b.stamp) b.cohorts ++ announcements top me n b b.stamp ++ dep_oks me n b.txn askers)
      ≤ length b.cohorts * cost_of_commit top + (1 + top.dcs * cost_of_ballot top s.dependencies)
      + length (filter (λ k. is_same_txn k.dependency b.txn) askers) * cost_of_notice top
  decided_costs me n b askers fits =
      cost_three top s (commits top me n b.txn (stamp_for me n b.stamp) b.cohorts) (announcements top me n b b.stamp) (dep_oks me n b.txn askers)
      (length b.cohorts * cost_of_commit top) (1 + top.dcs * cost_of_ballot top s.dependencies)
      (length (filter (λ k. is_same_txn k.dependency b.txn) askers) * cost_of_notice top)
      (cost_each top s (λ c. envelope me (shard_node top (dc_of top me) c) n (Commit b.txn n (stamp_for me n b.stamp))) (cost_of_commit top) b.cohorts
      (λ c. le_refl (cost_of_commit top)))
      (announced me n b b.stamp fits.1)
      (cost_each top s (λ k. envelope me k.from n (DepOk b.txn k.waiter n)) (cost_of_notice top) (filter (λ k. is_same_txn k.dependency b.txn) askers)
      (λ k. le_refl (cost_of_notice top)))

  pub decides : (me n : ℕ) (a : ShardState) (r c : ℕ) (b : BegunBallot) → 0 < c → Fits top s b.cohorts b.dependencies → Descends top s a r c (decide top me n a b)
  decides me n a r c b some fits = inr (d, refl, leaves)
    where
      d : Decision
      d = record { txn = b.txn; commit = n; stamp = stamp_for me n b.stamp }

      after : ShardState
      after = record a { decided = a.decided ++ d ∷ []; applied = a.applied ++ applied_part b.txn (shard_of top me) b.rows n (stamp_for me n b.stamp) ∷ [] }

      sends : List Envelope
      sends = commits top me n b.txn (stamp_for me n b.stamp) b.cohorts ++ announcements top me n b b.stamp ++ dep_oks me n b.txn a.askers

      leaves : DecidedOnce (a.decided ++ d ∷ []) → Leaves top s a (c + cost_of_decision top s) (decide top me n a b)
      leaves once =
          let gone : cost_of_all top s (decide top me n a b).sends + length (decide top me n a b).state.waiting ≤ cost_of_all top s sends + length a.waiting =
          let_go_costs me n after b.txn (λ x. true) sends in
          let sent : cost_of_all top s sends
          ≤ length b.cohorts * cost_of_commit top + (1 + top.dcs * cost_of_ballot top s.dependencies)
          + length (filter (λ k. is_same_txn k.dependency b.txn) a.askers) * cost_of_notice top =
          decided_costs me n b a.askers fits in
          let cohorts = mul-le-mul_right (cost_of_commit top) fits.0 in
          let fewer : (length (filter (λ k. undecided (a.decided ++ d ∷ []) k.dependency) a.askers) + length (filter (λ k. is_same_txn k.dependency b.txn) a.askers))
          * cost_of_notice top
          ≤ length (filter (λ k. undecided a.decided k.dependency) a.askers) * cost_of_notice top =
          mul-le-mul_right (cost_of_notice top) (asked_for a.decided d a.askers once) in
          omega arith
