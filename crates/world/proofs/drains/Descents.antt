-- A shard that handles a message descends: it decides a transaction, or sends only what is of a lower rank; and what it
-- leaves to do costs less than the message did.
use Rattle.std.proofs.Common.{ℕ, ◌+◌, ◌*◌, ◌<◌, ◌≤◌, true, List, [], ◌∷◌, ◌++◌, map, length, inl, inr, refl, sym, subst, arith, le_refl}
use Rattle.std.specs.Prelude.{nat_le}
use Rattle.std.proofs.Math.Nat.{mul-le-mul_right}
use Rattle.std.proofs.lemmas.List.{length-append}
use Rattle.logical_time.specs.Stamps.{StampValue, TxnValue, WriterValue}
use Rattle.messages.specs.declared.body.Body.{Body}
use Rattle.column_family.specs.declared.batch.Change.{Change}
use Rattle.messages.specs.declared.rows_at.AtTime.TheVariants as at
use Rattle.messages.specs.Rows.{row_now}
use Rattle.messages.specs.declared.body.Body.TheVariants.{Yes, At, NotBy, Read as ReadNow, PartNow, PartAt, Notify, DepOk, ReplPart, PrepareRemote, DepCheck}
use Rattle.messages.specs.declared.envelope.Envelope.{Envelope}
use Rattle.messages.specs.Topology.{TopologyValue, dc_of, shard_of, shard_node}
use Rattle.messages.specs.Words.{envelope, other_dcs}
use Rattle.messages.specs.Shard.{ShardState, ShardStep, Role, Own, Cohort, Replica, PreparedPart, KeptBallot, Asker, quiet}
use Rattle.messages.specs.Reads.{answer, part_at, check_of, waiting_read}
use Rattle.messages.specs.Commits.{prepare_part, applied_part, with_vote, repl_parts, apply_part}
use Rattle.messages.specs.Replication.{ballot_of, with_ballot, dep_checks, sent_before, with_notice, with_met}
use Rattle.messages.specs.ShardEvents.{handled}
use Rattle.shard.proofs.steps.HandledCases.{begun, replicated, the_ballot, a_notice, an_answer, ReadyStep, misses, alone, asks, StepOf, still, begin_decides, begin_holds, prepares, vote_decides, vote_counts, vote_early, applies, lets_go, tells_commit, tells_none, reads_now, reads_collected, reads_at, waits, readies, notice_early, keeps_part, prepares_replica, tells_decided, remembers, handled_cases}
use Rattle.world.specs.Drains.{rank, Sizes, cost_of_notice, cost_of_part, cost_of_commit, cost_of_check, cost_of_read_at, cost_of_ballot, cost, cost_of_all}
use Rattle.world.proofs.drains.NewDecisions.{one_more, undecided}
use Rattle.world.proofs.drains.Costs.{Low, low_none, low_one, low_map, low_both, cost_some, cost_each, cost_both, cost_cons}
use Rattle.world.proofs.drains.DecisionDescents.{other_count, Fits, AreWithin, IsWithin, Descends, let_go_costs, let_go_low, decides}

module _ (top : TopologyValue) (s : Sizes) where
  -- ## What many messages lead to

  -- one envelope of a lower rank that costs less
  one_descends : (a : ShardState) (n r c : ℕ) (e : Envelope) → rank e.body < r → cost top s e.body < c → Descends top s a r c (answer n a e)
  one_descends a n r c e lt le = inl (refl, low_one r e lt, omega (arith, le, cost_cons top s e []))

  yes_descends : (me n : ℕ) (a : ShardState) (t : TxnValue) (rows : List Change) (c : ℕ) (role : Role) → Descends top s a 1 2 (prepare_part top me n a t rows c role)
  yes_descends me n a t rows c role =
      let e = envelope me (shard_node top (dc_of top me) c) n (Yes t) in inl (refl, low_one 1 e (omega arith), omega (arith, cost_cons top s e []))

  parts_low : (me n : ℕ) (role : Role) (p : PreparedPart) (stamp : StampValue) → Low 4 (repl_parts role top me n p stamp)
  parts_low me n Own p stamp = low_none 4
  parts_low me n Cohort p stamp = low_map 4 _ (other_dcs top me) (λ d. omega arith)
  parts_low me n Replica p stamp = low_none 4

  parts_cost : (me n : ℕ) (role : Role) (p : PreparedPart) (stamp : StampValue) → cost_of_all top s (repl_parts role top me n p stamp) ≤ top.dcs * cost_of_part top
  parts_cost me n Own p stamp = omega arith
  parts_cost me n Cohort p stamp =
      let each =
      cost_each top s (λ d. envelope me (shard_node top d (shard_of top me)) n (ReplPart p.txn p.rows stamp p.coordinator)) (cost_of_part top) (other_dcs top me)
      (λ d. le_refl (cost_of_part top)) in
      let all = mul-le-mul_right (cost_of_part top) (other_count top me) in
      omega arith
  parts_cost me n Replica p stamp = omega arith

  apply_descends : (me n : ℕ) (a : ShardState) (p : PreparedPart) (commit : ℕ) (stamp : StampValue)
      → Descends top s a 4 (cost_of_commit top) (apply_part top me n a p commit stamp)
  apply_descends me n a p commit stamp =
      let after : ShardState = record a { applied = a.applied ++ applied_part p.txn p.coordinator p.rows commit stamp ∷ [] } in
      let parts = repl_parts p.role top me n p stamp in
      let gone = let_go_costs top s me n after p.txn (λ x. true) parts in
      let sent = parts_cost me n p.role p stamp in
      inl (refl, let_go_low top s me n after 4 p.txn (λ x. true) parts (omega arith) (parts_low me n p.role p stamp), omega arith)

  -- ## A replicated ballot

  ready_descends : (me n : ℕ) (a : ShardState) (r : ℕ) (k : KeptBallot) (st : ShardStep) → ReadyStep top me n a k st → 1 < r → Fits top s k.cohorts k.dependencies
      → Descends top s a r (cost_of_notice top) st
  ready_descends me n a r k st (misses is) low fits = inl (refl, low_none r, omega arith)
  ready_descends me n a r k st (alone is none) low fits = decides top s me n a r (cost_of_notice top) (ballot_of k) (omega arith) fits
  ready_descends me n a r k st (asks is c cs some) low fits =
      let few : length (c ∷ cs) ≤ top.shards = subst (λ l. length l ≤ top.shards) some fits.0 in
      let each = cost_each top s (λ c. envelope me (shard_node top (dc_of top me) c) n (PrepareRemote k.txn)) 2 (c ∷ cs) (λ c. le_refl 2) in
      inl (refl, low_map r _ (c ∷ cs) (λ c. low), omega arith)

  before_descends : (a : ShardState) (r c m : ℕ) (sends : List Envelope) (st : ShardStep) → Low r sends → cost_of_all top s sends ≤ m → Descends top s a r c st
      → Descends top s a r (c + m) (sent_before sends st)
  before_descends a r c m sends st low le (inl (same, rest, leaves)) =
      let split = cost_both top s sends st.sends in inl (same, low_both r sends st.sends low rest, omega arith)
  before_descends a r c m sends st low le (inr (d, new, leaves)) =
      let split = cost_both top s sends st.sends in inr (d, new, λ once. let l = leaves once in omega arith)

  checks_descend : (me n : ℕ) (a : ShardState) (k : KeptBallot) (st : ShardStep) → Descends top s a 4 (cost_of_notice top) st
      → Descends top s a 4 (cost_of_ballot top (length k.dependencies)) (sent_before (dep_checks top me n k) st)
  checks_descend me n a k st rest =
      before_descends a 4 (cost_of_notice top) (length k.dependencies * cost_of_part top) (dep_checks top me n k) st
      (low_map 4 _ k.dependencies (λ w. omega arith))
      (cost_each top s (λ (w : WriterValue). envelope me (shard_node top (dc_of top me) w.shard) n (DepCheck w.txn k.txn)) (cost_of_part top) k.dependencies
      (λ w. le_refl (cost_of_part top)))
      rest

  -- ## Every case

  -- what is ignored costs something
  still_descends : (a : ShardState) (n : ℕ) (m : Body) → Descends top s a (rank m) (cost top s m) (quiet n a)
  still_descends a n m = inl (refl, low_none (rank m), omega (arith, cost_some top s m))

  step_descends : (me n : ℕ) (a : ShardState) → AreWithin top s a → (from : ℕ) (m : Body) → IsWithin top s m → (st : ShardStep) → StepOf top me n a from m st
      → Descends top s a (rank m) (cost top s m) st
  step_descends me n a within from m fits st (still none) = still_descends a n m
  step_descends me n a within from m fits st (begin_decides t rows cohorts dependencies new all) =
      decides top s me n a 0 1 (begun t rows cohorts dependencies) (omega arith) fits
  step_descends me n a within from m fits st (begin_holds t rows cohorts dependencies new some) = inl (refl, low_none 0, omega arith)
  step_descends me n a within from m fits st (prepares t rows coordinator new) = yes_descends me n a t rows coordinator Cohort
  step_descends me n a within from m fits st (vote_decides t b is awaited all) =
      decides top s me n (with_vote a b.txn from) 0 1 b (omega arith) (within.ballots b is.among)
  step_descends me n a within from m fits st (vote_counts t b is awaited some) = inl (refl, low_none 0, omega arith)
  step_descends me n a within from m fits st (vote_early t none new first) = inl (refl, low_none 0, omega arith)
  step_descends me n a within from m fits st (applies t commit stamp (inl tells) p has is theirs new) =
      subst (λ z. Descends top s a (rank z) (cost top s z) (apply_part top me n a p commit stamp)) (sym tells) (apply_descends me n a p commit stamp)
  step_descends me n a within from m fits st (applies t commit stamp (inr tells) p has is theirs new) =
      subst (λ z. Descends top s a (rank z) (cost top s z) (apply_part top me n a p commit stamp)) (sym tells) (apply_descends me n a p commit stamp)
  step_descends me n a within from m fits st (lets_go t time) =
      let gone = let_go_costs top s me n a t (λ x. nat_le x.time time) [] in
      inl (refl, let_go_low top s me n a 1 t (λ x. nat_le x.time time) [] (omega arith) (low_none 1), omega arith)
  step_descends me n a within from m fits st (tells_commit t time d has is) =
      one_descends a n 5 (cost_of_check top) (envelope me from n (At t d.commit d.stamp)) (omega arith) (omega arith)
  step_descends me n a within from m fits st (tells_none t time is) =
      one_descends a n 5 (cost_of_check top) (envelope me from n (NotBy t time)) (omega arith) (omega arith)
  step_descends me n a within from m fits st (reads_now number read) =
      one_descends a n 8 (cost top s (ReadNow number read)) (envelope me from n (PartNow number (map (row_now n a read) read.keys))) (omega arith) (omega arith)
  step_descends me n a within from m fits st (reads_collected number time read new below) =
      one_descends a n 6 (cost_of_read_at top s) (envelope me from n (PartAt number time at.Collected)) (omega arith) (omega arith)
  step_descends me n a within from m fits st (reads_at number time read new above none) =
      one_descends a n 6 (cost_of_read_at top s) (part_at me n a (waiting_read from number time read [])) (omega arith) (omega arith)
  step_descends me n a within from m fits st (waits number time read new above w ws some) =
      let le : length (w ∷ ws) ≤ s.operations = subst (λ l. length l ≤ s.operations) some (within.asked time read) in
      let more = length-append a.waiting (waiting_read from number time read (w ∷ ws) ∷ []) in
      let each = cost_each top s (check_of top me n time) (cost_of_check top) (w ∷ ws) (λ x. le_refl (cost_of_check top)) in
      let all = mul-le-mul_right (cost_of_check top) le in
      inl (refl, low_map 6 (check_of top me n time) (w ∷ ws) (λ x. omega arith), omega arith)
  step_descends me n a within from m fits st (readies {st = z} (the_ballot t rows stamp cohorts dependencies new) step) =
      let k = replicated t rows stamp cohorts dependencies in
      checks_descend me n a k z (ready_descends me n (with_ballot a k) 4 k z step (omega arith) fits)
  step_descends me n a within from m fits st (readies (a_notice t k has is awaited unready) step) =
      ready_descends me n (with_notice a k.txn from) 2 k _ step (omega arith) (within.kept k has)
  step_descends me n a within from m fits st (readies (an_answer dependency waiter commit k has is unmet unready) step) =
      ready_descends me n (with_met a k.txn dependency) 2 k _ step (omega arith) (within.kept k has)
  step_descends me n a within from m fits st (notice_early t none new first) = inl (refl, low_none 2, omega arith)
  step_descends me n a within from m fits st (keeps_part t rows stamp coordinator new) =
      one_descends a n 3 (cost_of_part top) (envelope me (shard_node top (dc_of top me) coordinator) n (Notify t)) (omega arith) (omega arith)
  step_descends me n a within from m fits st (prepares_replica t k has is new) = yes_descends me n a k.txn k.rows k.coordinator Replica
  step_descends me n a within from m fits st (tells_decided dependency waiter d has is) =
      one_descends a n 3 (cost_of_part top) (envelope me from n (DepOk dependency waiter d.commit)) (omega arith) (omega arith)
  step_descends me n a within from m fits st (remembers dependency waiter none new) =
      let k : Asker = record { dependency = dependency; waiter = waiter; from = from } in
      let more = mul-le-mul_right (cost_of_notice top) (one_more (λ k. undecided a.decided k.dependency) a.askers k) in
      inl (refl, low_none 3, omega arith)

  pub handled_descends : (me n : ℕ) (a : ShardState) → AreWithin top s a → (from : ℕ) (b : Body) → IsWithin top s b
      → Descends top s a (rank b) (cost top s b) (handled top me n a from b)
  handled_descends me n a within from b fits = step_descends me n a within from b fits (handled top me n a from b) (handled_cases top me n a from b)
