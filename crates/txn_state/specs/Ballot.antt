-- Ballots, and ballots that are complete.
use Rattle.std.specs.Prelude.{ℕ, List}
use Rattle.txn_state.specs.Prepared.{PreparedValue}
use Rattle.txn_state.specs.Votes.{VotesValue}

-- the coordinator's own part, and the votes of its cohorts
pub record BallotValue : Type 0 where
  pub own : PreparedValue
  pub votes : VotesValue

-- the coordinator's own part, and its cohorts, each of which has voted
pub record CompleteValue : Type 0 where
  pub own : PreparedValue
  pub cohorts : List ℕ
