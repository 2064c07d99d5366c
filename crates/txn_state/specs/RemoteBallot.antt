-- Ballots of replicated writes, before anything is prepared.
use Rattle.std.specs.Prelude.{ℕ, ◌+◌, List, length}
use Rattle.logical_time.specs.Stamps.{StampValue, TxnValue}
use Rattle.txn_state.specs.declared.part.WritePart.{WritePart}
use Rattle.txn_state.specs.Votes.{VotesValue}

-- the coordinator's own part, the stamp that came from the write's own data centre, the notices of the cohorts, and the
-- dependencies whose answers are missing
pub record RemoteValue : Type 0 where
  pub part : WritePart
  pub stamp : StampValue
  pub notices : VotesValue
  pub answers : List TxnValue

-- how many notices and answers are missing
abbrev pub missing_in : RemoteValue → ℕ
missing_in r = length r.notices.missing + length r.answers
