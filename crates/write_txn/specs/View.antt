-- What a shard's state says of one transaction.
use Rattle.std.specs.Prelude.{ℕ, Bool, ◌&&◌, not, List, map, filter, find, Option}
use Rattle.std.specs.List.{list_all}
use Rattle.logical_time.specs.Stamps.{TxnValue}
use Rattle.txn_state.specs.Answers.{is_unanswered}
use Rattle.txn_state.specs.Votes.{is_among}
use Rattle.messages.specs.Topology.{TopologyValue, dc_of, shard_node}
use Rattle.messages.specs.Words.{is_same_txn}
use Rattle.messages.specs.Shard.{ShardState, PreparedPart, BegunBallot, Vote, Decision, KeptPart, KeptBallot, Met}
use Rattle.messages.specs.Known.{decision_of, prepared_part, kept_part, kept_ballot, is_applied}

-- the nodes of the votes, or notices, for a transaction
abbrev pub nodes_for : List Vote → TxnValue → List ℕ
nodes_for vs t = map (λ v. v.node) (filter (λ v. is_same_txn v.txn t) vs)

-- the dependencies of a transaction that are met
abbrev pub met_for : List Met → TxnValue → List TxnValue
met_for ms t = map (λ m. m.dependency) (filter (λ m. is_same_txn m.waiter t) ms)

-- all that a shard's state says of one transaction
pub record View : Type 0 where
  pub prepared : Option PreparedPart
  pub ballot : Option BegunBallot
  pub kept_part : Option KeptPart
  pub kept_ballot : Option KeptBallot
  pub decision : Option Decision
  pub applied : Bool
  pub early : List ℕ
  pub votes : List ℕ
  pub notices : List ℕ
  pub met : List TxnValue

abbrev pub view_of : TxnValue → ShardState → View
view_of t a =
    record {
      prepared = prepared_part t a;
      ballot = find (λ b. is_same_txn b.txn t) a.ballots;
      kept_part = kept_part t a;
      kept_ballot = kept_ballot t a;
      decision = decision_of t a;
      applied = is_applied t a;
      early = nodes_for a.early t;
      votes = nodes_for a.votes t;
      notices = nodes_for a.notices t;
      met = met_for a.met t;
    }

-- the nodes of these shards in the data centre of this one
abbrev pub near_nodes : TopologyValue → ℕ → List ℕ → List ℕ
near_nodes top me shards = map (λ s. shard_node top (dc_of top me) s) shards

-- those of these nodes that aren't among the others
abbrev pub left_of : List ℕ → List ℕ → List ℕ
left_of nodes voters = filter (λ n. not (is_among voters n)) nodes

-- whether all notices and all answers of this ballot are there
abbrev pub is_ready_by : TopologyValue → ℕ → View → KeptBallot → Bool
is_ready_by top me v r =
    list_all (λ n. is_among v.notices n) (near_nodes top me r.cohorts) && list_all (λ w. is_unanswered v.met w.txn) r.dependencies
