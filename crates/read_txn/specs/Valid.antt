-- Which rows of the first round may be taken.
use Rattle.std.specs.Prelude.{ℕ, ◌≤◌, ◌⊎◌, ◌≡◌, List, Contains}
use Rattle.messages.specs.declared.rows_now.RowNow.{RowNow}
use Rattle.messages.specs.Session.{HeardNow}
use Rattle.messages.specs.Rounds.{rows_from}
use Rattle.read_txn.specs.declared.late.LateShard.{LateShard}
use Rattle.read_txn.specs.declared.first_round.FirstTaken.{FirstTaken}
use Rattle.read_txn.specs.declared.first_round.FirstTaken.TheVariants.{More, Second, Done}
use Rattle.read_txn.specs.States.{asked_again}

-- every row that an asked shard answered is valid at the time
abbrev pub AllValid : List ℕ → ℕ → List HeardNow → Type 0
AllValid asked time heard = (node : ℕ) → Contains asked node → (r : RowNow) → Contains (rows_from heard node) r → time ≤ r.lvt

-- every row that an asked shard answered is valid at the time, or its shard is asked again for it
abbrev pub ValidOrAskedAgain : List ℕ → ℕ → List HeardNow → Type 0
ValidOrAskedAgain asked time heard =
    (node : ℕ) → Contains asked node → (r : RowNow) → Contains (rows_from heard node) r
    → (time ≤ r.lvt) ⊎ ((l : LateShard) × Contains (asked_again asked time heard) l × (l.node ≡ node) × Contains l.keys r.key)

-- a read completes in the first round only where each row is valid at its effective time, and else asks again for each
-- other row
abbrev pub AcceptsValid : List ℕ → List HeardNow → FirstTaken → Type 0
AcceptsValid asked heard (More f) = Unit {0}
AcceptsValid asked heard (Second s) = ValidOrAskedAgain s.asked s.time s.first
AcceptsValid asked heard (Done a) = AllValid asked a.effective heard
