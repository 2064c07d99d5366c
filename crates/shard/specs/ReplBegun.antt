-- The ballot of another data centre's write as it comes to its coordinator.
use Rattle.std.specs.Prelude.{◌≡◌, ℕ, List}
use Rattle.logical_time.specs.Stamps.{TxnValue}
use Rattle.txn_state.specs.Votes.{votes_after}
use Rattle.txn_state.specs.Answers.{is_unanswered, is_dependency}
use Rattle.messages.specs.Topology.{TopologyValue, shard_of}
use Rattle.messages.specs.Shard.{KeptBallot}
use Rattle.write_txn.specs.declared.open.Remote.{Remote}
use Rattle.write_txn.specs.View.{near_nodes}
use Rattle.shard.specs.declared.repl_begun.ReplBegun.{ReplBegun}

-- the ballot that a ReplBegin brings
abbrev pub ballot_begun : ReplBegun → KeptBallot
ballot_begun b = record { txn = b.txn; rows = b.rows; stamp = b.stamp; cohorts = b.cohorts; dependencies = b.dependencies }

-- a ballot that has just come to this shard: the notices of these nodes are counted, which came early, and no answer is
pub record IsBegun (top : TopologyValue) (me : ℕ) (early : List ℕ) (r : Remote) : Type 0 where
  pub own : r.ballot.part.writer.shard ≡ shard_of top me
  pub notices : r.ballot.notices ≡ votes_after (near_nodes top me r.cohorts) early
  pub answers : (t : TxnValue) → is_unanswered r.ballot.answers t ≡ is_dependency r.dependencies t
