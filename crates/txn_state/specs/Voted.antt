-- What a vote makes of a ballot.
use Rattle.std.specs.Prelude.{ℕ, Bool, true, false}
use Rattle.txn_state.specs.declared.ballot.Voted.{Voted}
use Rattle.txn_state.specs.declared.ballot.Voted.TheVariants.{More, All}
use Rattle.txn_state.specs.Votes.{counted, are_all_there}
use Rattle.txn_state.specs.Ballot.{BallotValue}

-- by whether all votes are there
abbrev pub voted_if : Bool → BallotValue → Voted
voted_if true b = All (record { own = b.own; cohorts = b.votes.cohorts })
voted_if false b = More b

-- the vote of a node is counted, and the last missing one completes the ballot
abbrev pub voted : BallotValue → ℕ → Voted
voted b node = voted_if (are_all_there (counted b.votes node)) (record b { votes = counted b.votes node })
