-- What an answer makes of an open move.
use Rattle.std.specs.Prelude.{ℕ, max, Bool, true, false, List}
use Rattle.logical_time.specs.Stamps.{TxnValue, WriterValue}
use Rattle.messages.specs.SessionEvents.{is_left, left_after}
use Rattle.dependencies.specs.Moving.{MoveValue, none_left}
use Rattle.dependencies.specs.declared.moving.MoveTaken.{MoveTaken}
use Rattle.dependencies.specs.declared.moving.MoveTaken.TheVariants.{More, Ended}

-- a missing answer was counted, by whether it was the last one
abbrev pub counted_if : Bool → List WriterValue → ℕ → MoveTaken
counted_if true left floor = Ended floor
counted_if false left floor = More (record { left = left; floor = floor })

-- an answer, by whether it is missing
abbrev pub move_taken_if : Bool → MoveValue → TxnValue → ℕ → MoveTaken
move_taken_if true m dependency commit =
    counted_if (none_left (left_after dependency m.left)) (left_after dependency m.left) (max m.floor commit)
move_taken_if false m dependency commit = More m

-- an answer is counted where it is missing
abbrev pub move_taken : MoveValue → TxnValue → ℕ → MoveTaken
move_taken m dependency commit = move_taken_if (is_left dependency m.left) m dependency commit
