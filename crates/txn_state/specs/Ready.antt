-- What becomes of a replicated write once nothing is missing.
use Rattle.std.specs.Prelude.{ℕ, List, [], ◌∷◌}
use Rattle.txn_state.specs.declared.remote_ballot.Ready.{Ready}
use Rattle.txn_state.specs.declared.remote_ballot.Ready.TheVariants as in_ready
use Rattle.txn_state.specs.Prepared.{PreparedValue}
use Rattle.txn_state.specs.RemoteBallot.{RemoteValue}

-- by its cohorts: where there are none the ballot is complete, else all their votes are missing
abbrev pub ready_for : List ℕ → PreparedValue → Ready
ready_for [] own = in_ready.Complete (record { own = own; cohorts = [] })
ready_for (c ∷ cs) own = in_ready.Ballot (record { own = own; votes = record { cohorts = c ∷ cs; missing = c ∷ cs } })

-- the coordinator's own part is prepared at the time
abbrev pub ready_at : RemoteValue → ℕ → Ready
ready_at r time = ready_for r.notices.cohorts (record { part = r.part; time = time })
