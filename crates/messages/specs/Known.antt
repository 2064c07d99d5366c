-- What a shard knows of a transaction, by what it kept.
use Rattle.std.specs.Prelude.{◌≡◌, ℕ, Bool, false, ◌&&◌, ◌||◌, not, ◌==◌, if◌then◌else◌, List, [], ◌∷◌, find, Option, None, is_some, ⊤}
use Rattle.std.specs.List.{list_any, list_all}
use Rattle.logical_time.specs.Stamps.{TxnValue, WriterValue}
use Rattle.messages.specs.Topology.{TopologyValue, dc_of, shard_node}
use Rattle.messages.specs.Words.{is_same_txn}
use Rattle.messages.specs.Shard.{ShardState, PreparedPart, BegunBallot, Vote, Decision, KeptPart, KeptBallot, Asker, Met}

-- what the shard decided as coordinator
abbrev pub decision_of : TxnValue → ShardState → Option Decision
decision_of t a = find (λ d. is_same_txn d.txn t) a.decided

abbrev pub prepared_part : TxnValue → ShardState → Option PreparedPart
prepared_part t a = find (λ p. is_same_txn p.txn t) a.prepared

abbrev pub kept_part : TxnValue → ShardState → Option KeptPart
kept_part t a = find (λ p. is_same_txn p.txn t) a.kept_parts

abbrev pub kept_ballot : TxnValue → ShardState → Option KeptBallot
kept_ballot t a = find (λ b. is_same_txn b.txn t) a.kept_ballots

abbrev pub is_applied : TxnValue → ShardState → Bool
is_applied t a = list_any (λ p. is_same_txn p.part.writer.txn t) a.applied

-- the ballot of a transaction that was begun and isn't decided
abbrev pub standing_ballot : TxnValue → ShardState → Option BegunBallot
standing_ballot t a = if is_some (decision_of t a) then None else find (λ b. is_same_txn b.txn t) a.ballots

-- a transaction is known for good once the shard has begun, prepared, kept or decided it
abbrev pub is_known : TxnValue → ShardState → Bool
is_known t a =
    list_any (λ b. is_same_txn b.txn t) a.ballots || is_some (prepared_part t a) || is_some (kept_part t a)
    || is_some (kept_ballot t a) || is_some (decision_of t a)

-- whether there is a vote, or a notice, of this node
abbrev pub has_vote : List Vote → TxnValue → ℕ → Bool
has_vote votes t node = list_any (λ v. is_same_txn v.txn t && (v.node == node)) votes

-- whether the node is one of these cohorts, which are shards of this shard's data centre
abbrev pub is_cohort : TopologyValue → ℕ → List ℕ → ℕ → Bool
is_cohort top me cohorts node = list_any (λ s. shard_node top (dc_of top me) s == node) cohorts

-- whether the node is one of the cohorts, and its vote isn't there
abbrev pub is_awaited : TopologyValue → ℕ → List ℕ → List Vote → TxnValue → ℕ → Bool
is_awaited top me cohorts votes t node = is_cohort top me cohorts node && not (has_vote votes t node)

-- whether the votes of all cohorts are there
abbrev pub all_voted : TopologyValue → ℕ → List ℕ → List Vote → TxnValue → Bool
all_voted top me cohorts votes t = list_all (λ s. has_vote votes t (shard_node top (dc_of top me) s)) cohorts

-- whether the waiter's dependency is answered
abbrev pub is_met : List Met → TxnValue → TxnValue → Bool
is_met met waiter dependency = list_any (λ m. is_same_txn m.waiter waiter && is_same_txn m.dependency dependency) met

-- whether all of the waiter's dependencies are answered
abbrev pub all_met : List Met → TxnValue → List WriterValue → Bool
all_met met waiter dependencies = list_all (λ w. is_met met waiter w.txn) dependencies

-- whether this actor asked for the dependency for this waiter already
abbrev pub is_asker : List Asker → TxnValue → TxnValue → ℕ → Bool
is_asker askers dependency waiter from =
    list_any (λ k. is_same_txn k.dependency dependency && is_same_txn k.waiter waiter && (k.from == from)) askers

-- none of these is of the transaction
abbrev pub AreOfOthers : {T : Type 0} → (T → TxnValue) → TxnValue → List T → Type 0
AreOfOthers txn_of t [] = ⊤
AreOfOthers txn_of t (x ∷ xs) = (is_same_txn (txn_of x) t ≡ false) × AreOfOthers txn_of t xs

-- no two of these are of one transaction
abbrev pub AreOnce : {T : Type 0} → (T → TxnValue) → List T → Type 0
AreOnce txn_of [] = ⊤
AreOnce txn_of (x ∷ xs) = AreOfOthers txn_of (txn_of x) xs × AreOnce txn_of xs
