-- What a shard keeps it keeps for good, whatever comes.
use Rattle.std.proofs.Common.{ℕ, List, [], ◌∷◌, ◌++◌, Option, Some, None}
use Rattle.std.specs.Prelude.{max, filter, Contains}
use Rattle.std.proofs.lemmas.List.Elements.{Contains-append_left}
use Rattle.logical_time.specs.Stamps.{StampValue, TxnValue}
use Rattle.column_family.specs.declared.batch.Change.{Change}
use Rattle.store.specs.declared.part.Applied.{Applied}
use Rattle.messages.specs.declared.body.Body.{Body}
use Rattle.messages.specs.Topology.{TopologyValue}
use Rattle.messages.specs.Words.{is_same_txn}
use Rattle.messages.specs.Shard.{ShardState, ShardStep, Role, Cohort, Replica, PreparedPart, BegunBallot, Vote, Decision, KeptPart, KeptBallot, Met, Asker, WaitingRead}
use Rattle.messages.specs.Commits.{decide, hold, prepare_part, apply_part, with_vote}
use Rattle.messages.specs.Replication.{ballot_of, with_ballot, with_notice, with_met}
use Rattle.messages.specs.ShardEvents.{handled, collected}
use Rattle.messages.specs.declared.envelope.Envelope.{Envelope}
use Rattle.shard.specs.Sound.{IsWithin}
use Rattle.shard.proofs.steps.HandledCases.{begun, replicated, copied, Brings, the_ballot, a_notice, an_answer, ReadyStep, misses, alone, asks, StepOf, still, begin_decides, begin_holds, prepares, vote_decides, vote_counts, vote_early, applies, lets_go, tells_commit, tells_none, reads_now, reads_collected, reads_at, waits, readies, notice_early, keeps_part, prepares_replica, tells_decided, remembers, handled_cases}

pub within_then : {a b c : ShardState} → IsWithin a b → IsWithin b c → IsWithin a c
within_then f g =
    record {
      prepared = λ y has. g.prepared y (f.prepared y has);
      ballots = λ y has. g.ballots y (f.ballots y has);
      early = λ y has. g.early y (f.early y has);
      votes = λ y has. g.votes y (f.votes y has);
      decided = λ y has. g.decided y (f.decided y has);
      applied = λ y has. g.applied y (f.applied y has);
      kept_parts = λ y has. g.kept_parts y (f.kept_parts y has);
      kept_ballots = λ y has. g.kept_ballots y (f.kept_ballots y has);
      notices = λ y has. g.notices y (f.notices y has);
      met = λ y has. g.met y (f.met y has);
      askers = λ y has. g.askers y (f.askers y has);
    }

-- ## What a step adds

-- to each list these, or nothing
record Adds : Type 0 where
  prepared : Option (List PreparedPart)
  ballots : Option (List BegunBallot)
  early : Option (List Vote)
  votes : Option (List Vote)
  decided : Option (List Decision)
  applied : Option (List Applied)
  kept_parts : Option (List KeptPart)
  kept_ballots : Option (List KeptBallot)
  notices : Option (List Vote)
  met : Option (List Met)
  askers : Option (List Asker)

abbrev nothing : Adds
nothing =
    record {
      prepared = None;
      ballots = None;
      early = None;
      votes = None;
      decided = None;
      applied = None;
      kept_parts = None;
      kept_ballots = None;
      notices = None;
      met = None;
      askers = None;
    }

abbrev onto : {X : Type 0} → List X → Option (List X) → List X
onto xs None = xs
onto xs (Some ys) = xs ++ ys

-- the shard after a step that adds these: its clock, its horizon and what waits may be others
abbrev adding : ShardState → ℕ → ℕ → List WaitingRead → Adds → ShardState
adding a n low ws m =
    record a {
      clock = n;
      low = low;
      waiting = ws;
      prepared = onto a.prepared m.prepared;
      ballots = onto a.ballots m.ballots;
      early = onto a.early m.early;
      votes = onto a.votes m.votes;
      decided = onto a.decided m.decided;
      applied = onto a.applied m.applied;
      kept_parts = onto a.kept_parts m.kept_parts;
      kept_ballots = onto a.kept_ballots m.kept_ballots;
      notices = onto a.notices m.notices;
      met = onto a.met m.met;
      askers = onto a.askers m.askers;
    }

stays : {X : Type 0} (xs : List X) (o : Option (List X)) (x : X) → Contains xs x → Contains (onto xs o) x
stays xs None x has = has
stays xs (Some ys) x has = Contains-append_left xs ys x has

adding_within : (a : ShardState) (n low : ℕ) (ws : List WaitingRead) (m : Adds) → IsWithin a (adding a n low ws m)
adding_within a n low ws m =
    record {
      prepared = stays a.prepared m.prepared;
      ballots = stays a.ballots m.ballots;
      early = stays a.early m.early;
      votes = stays a.votes m.votes;
      decided = stays a.decided m.decided;
      applied = stays a.applied m.applied;
      kept_parts = stays a.kept_parts m.kept_parts;
      kept_ballots = stays a.kept_ballots m.kept_ballots;
      notices = stays a.notices m.notices;
      met = stays a.met m.met;
      askers = stays a.askers m.askers;
    }

pub within_itself : (a : ShardState) → IsWithin a a
within_itself a = adding_within a a.clock a.low a.waiting nothing

clock_within : (a : ShardState) (n low : ℕ) (ws : List WaitingRead) → IsWithin a (record a { clock = n; low = low; waiting = ws })
clock_within a n low ws = adding_within a n low ws nothing

quiet_within : (a : ShardState) (n : ℕ) → IsWithin a (record a { clock = n })
quiet_within a n = adding_within a n a.low a.waiting nothing

early_within : (a : ShardState) (n : ℕ) (v : Vote) → IsWithin a (record a { clock = n; early = a.early ++ v ∷ [] })
early_within a n v = adding_within a n a.low a.waiting (record nothing { early = Some (v ∷ []) })

vote_within : (a : ShardState) (t : TxnValue) (node : ℕ) → IsWithin a (with_vote a t node)
vote_within a t node = adding_within a a.clock a.low a.waiting (record nothing { votes = Some _ })

kept_part_within : (a : ShardState) (n : ℕ) (k : KeptPart) → IsWithin a (record a { clock = n; kept_parts = a.kept_parts ++ k ∷ [] })
kept_part_within a n k = adding_within a n a.low a.waiting (record nothing { kept_parts = Some (k ∷ []) })

kept_ballot_within : (a : ShardState) (r : KeptBallot) → IsWithin a (with_ballot a r)
kept_ballot_within a r = adding_within a a.clock a.low a.waiting (record nothing { kept_ballots = Some (r ∷ []) })

notice_within : (a : ShardState) (t : TxnValue) (node : ℕ) → IsWithin a (with_notice a t node)
notice_within a t node = adding_within a a.clock a.low a.waiting (record nothing { notices = Some _ })

met_within : (a : ShardState) (waiter dependency : TxnValue) → IsWithin a (with_met a waiter dependency)
met_within a waiter dependency = adding_within a a.clock a.low a.waiting (record nothing { met = Some _ })

asker_within : (a : ShardState) (n : ℕ) (k : Asker) → IsWithin a (record a { clock = n; askers = a.askers ++ k ∷ [] })
asker_within a n k = adding_within a n a.low a.waiting (record nothing { askers = Some (k ∷ []) })

prepare_within : (top : TopologyValue) (me n : ℕ) (a : ShardState) (t : TxnValue) (rows : List Change) (c : ℕ) (role : Role)
    → IsWithin a (prepare_part top me n a t rows c role).state
prepare_within top me n a t rows c role = adding_within a n a.low a.waiting (record nothing { prepared = Some _ })

hold_within : (top : TopologyValue) (me n : ℕ) (a : ShardState) (b : BegunBallot) (counted : List Vote) → IsWithin a (hold top me n a b counted []).state
hold_within top me n a b counted =
    adding_within a n a.low a.waiting (record nothing { prepared = Some _; ballots = Some (b ∷ []); votes = Some counted })

decide_within : (top : TopologyValue) (me n : ℕ) (a : ShardState) (b : BegunBallot) → IsWithin a (decide top me n a b).state
decide_within top me n a b = adding_within a n a.low _ (record nothing { decided = Some _; applied = Some _ })

apply_within : (top : TopologyValue) (me n : ℕ) (a : ShardState) (p : PreparedPart) (commit : ℕ) (stamp : StampValue)
    → IsWithin a (apply_part top me n a p commit stamp).state
apply_within top me n a p commit stamp = adding_within a n a.low _ (record nothing { applied = Some _ })

-- ## Each case

pub ready_step_in : (top : TopologyValue) (me n : ℕ) (a : ShardState) (r : KeptBallot) (st : ShardStep) → ReadyStep top me n a r st → IsWithin a st.state
ready_step_in top me n a r st (misses is) = quiet_within a n
ready_step_in top me n a r st (alone is none) = decide_within top me n a (ballot_of r)
ready_step_in top me n a r st (asks is c cs some) = hold_within top me n a (ballot_of r) []

pub brings_in : (top : TopologyValue) (me n : ℕ) (a : ShardState) (from : ℕ) (m : Body) (r : KeptBallot) (b : ShardState) (first : List Envelope)
    → Brings top me n a from m r b first → IsWithin a b
brings_in top me n a from m r b first (the_ballot t rows stamp cohorts dependencies new) = kept_ballot_within a (replicated t rows stamp cohorts dependencies)
brings_in top me n a from m r b first (a_notice t k has is awaited unready) = notice_within a k.txn from
brings_in top me n a from m r b first (an_answer dependency waiter commit k has is unmet unready) = met_within a k.txn dependency

step_in : (top : TopologyValue) (me n : ℕ) (a : ShardState) (from : ℕ) (m : Body) (st : ShardStep) → StepOf top me n a from m st → IsWithin a st.state
step_in top me n a from m st (still none) = quiet_within a n
step_in top me n a from m st (begin_decides t rows cohorts dependencies new all) = decide_within top me n a (begun t rows cohorts dependencies)
step_in top me n a from m st (begin_holds t rows cohorts dependencies new some) =
    hold_within top me n a (begun t rows cohorts dependencies) (filter (λ v. is_same_txn v.txn t) a.early)
step_in top me n a from m st (prepares t rows coordinator new) = prepare_within top me n a t rows coordinator Cohort
step_in top me n a from m st (vote_decides t b is awaited all) =
    within_then (vote_within a b.txn from) (decide_within top me n (with_vote a b.txn from) b)
step_in top me n a from m st (vote_counts t b is awaited some) = within_then (vote_within a b.txn from) (quiet_within (with_vote a b.txn from) n)
step_in top me n a from m st (vote_early t none new first) = early_within a n (record { txn = t; node = from })
step_in top me n a from m st (applies t commit stamp tells p has is theirs new) = apply_within top me n a p commit stamp
step_in top me n a from m st (lets_go t time) = clock_within a n a.low _
step_in top me n a from m st (tells_commit t time d has is) = quiet_within a n
step_in top me n a from m st (tells_none t time is) = quiet_within a n
step_in top me n a from m st (reads_now number read) = quiet_within a n
step_in top me n a from m st (reads_collected number time read new below) = quiet_within a n
step_in top me n a from m st (reads_at number time read new above none) = quiet_within a n
step_in top me n a from m st (waits number time read new above w ws some) = clock_within a n a.low _
step_in top me n a from m st (readies brings step) = within_then (brings_in top me n a from _ _ _ _ brings) (ready_step_in top me n _ _ _ step)
step_in top me n a from m st (notice_early t none new first) = within_then (notice_within a t from) (quiet_within (with_notice a t from) n)
step_in top me n a from m st (keeps_part t rows stamp coordinator new) = kept_part_within a n (copied t rows stamp coordinator)
step_in top me n a from m st (prepares_replica t k has is new) = prepare_within top me n a k.txn k.rows k.coordinator Replica
step_in top me n a from m st (tells_decided dependency waiter d has is) = quiet_within a n
step_in top me n a from m st (remembers dependency waiter none new) = asker_within a n (record { dependency = dependency; waiter = waiter; from = from })

pub handled_within : (top : TopologyValue) (me n : ℕ) (a : ShardState) (from : ℕ) (b : Body) → IsWithin a (handled top me n a from b).state
handled_within top me n a from b = step_in top me n a from b (handled top me n a from b) (handled_cases top me n a from b)

pub collected_within : (n : ℕ) (a : ShardState) (time : ℕ) → IsWithin a (collected n a time).state
collected_within n a time = clock_within a n (max a.low time) a.waiting
