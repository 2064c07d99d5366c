-- What an answer makes of a round.
use Rattle.std.specs.Prelude.{ℕ, Bool, true, false, List, [], ◌∷◌, ◌++◌}
use Rattle.messages.specs.declared.rows_now.RowNow.{RowNow}
use Rattle.messages.specs.declared.rows_at.AtTime.{AtTime}
use Rattle.messages.specs.declared.rows_at.AtTime.TheVariants as at
use Rattle.messages.specs.Rounds.{is_missing, all_heard, effective_time, late_nodes, is_missing_at, all_heard_at, rows_taken}
use Rattle.read_txn.specs.declared.first_round.FirstTaken.{FirstTaken}
use Rattle.read_txn.specs.declared.first_round.FirstTaken.TheVariants as in_first
use Rattle.read_txn.specs.declared.second_round.SecondTaken.{SecondTaken}
use Rattle.read_txn.specs.declared.second_round.SecondTaken.TheVariants as in_second
use Rattle.read_txn.specs.States.{First, Second}
use Rattle.read_txn.specs.Completed.{answered}

-- ## The first round

-- the first round is over: the read completes where each row is accepted, else the shards of the other rows are asked
-- again
abbrev pub second_if : List ℕ → First → ℕ → FirstTaken
second_if [] f time = in_first.Done (answered f.read time (rows_taken time f.heard []))
second_if (s ∷ ss) f time =
    in_first.Second (record { read = f.read; time = time; asked = f.asked; first = f.heard; heard = [] })

abbrev pub over : First → ℕ → FirstTaken
over f time = second_if (late_nodes f.asked time f.heard) f time

-- an answer was kept, by whether all asked shards have answered: the last one gives the effective time
abbrev pub heard_if : Bool → First → FirstTaken
heard_if true f = over f (effective_time f.floor f.heard)
heard_if false f = in_first.More f

abbrev pub heard : First → FirstTaken
heard f = heard_if (all_heard f.asked f.heard) f

abbrev pub first_taken_if : Bool → First → ℕ → List RowNow → FirstTaken
first_taken_if true f from rows = heard (record f { heard = f.heard ++ record { from = from; rows = rows } ∷ [] })
first_taken_if false f from rows = in_first.More f

-- An answer of the first round: kept where this shard is asked and hasn't answered; else nothing changes
abbrev pub first_taken : First → ℕ → List RowNow → FirstTaken
first_taken f from rows = first_taken_if (is_missing f.asked f.heard from) f from rows

-- ## The second round

-- whether this shard is asked in the second round and hasn't answered there
abbrev pub is_awaited : Second → ℕ → Bool
is_awaited s node = is_missing_at s.asked s.time s.first s.heard node

-- an answer was kept, by whether all shards of the second round have answered: the last one completes the read
abbrev pub heard_at_if : Bool → Second → SecondTaken
heard_at_if true s = in_second.Done (answered s.read s.time (rows_taken s.time s.first s.heard))
heard_at_if false s = in_second.More s

abbrev pub heard_at : Second → SecondTaken
heard_at s = heard_at_if (all_heard_at s.asked s.time s.first s.heard) s

-- an awaited answer: Collected ends the read
abbrev pub taken_at : AtTime → Second → ℕ → SecondTaken
taken_at at.Collected s from = in_second.Collected
taken_at (at.Rows rows) s from = heard_at (record s { heard = s.heard ++ record { from = from; rows = rows } ∷ [] })

abbrev pub second_taken_if : Bool → Second → ℕ → AtTime → SecondTaken
second_taken_if true s from answer = taken_at answer s from
second_taken_if false s from answer = in_second.More s

-- An answer of the second round: kept where this shard is awaited; else nothing changes
abbrev pub second_taken : Second → ℕ → AtTime → SecondTaken
second_taken s from answer = second_taken_if (is_awaited s from) s from answer
