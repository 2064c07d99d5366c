-- Worked runs in which one data centre has handled what its own actors sent each other.
use Rattle.std.specs.Prelude.{[], ◌∷◌, ◌++◌}
use Rattle.world.specs.Run.{Run, Deliver, run}
use Rattle.world.specs.Worked.{insert, write, read, deliver, key_b, name_x, two_shards, second_round}
use Rattle.world.specs.WorkedMoves.{move, one_mover, moves_over}

-- The session writes in data centre 0, and is told. It moves, and nothing goes between the data centres any more
abbrev pub moves_on : Run
moves_on = run one_mover (write 2 (insert key_b name_x 1 ∷ []) ∷ deliver (0 ∷ 1 ∷ []) ++ move 2 1 ∷ [])

-- it has moved to data centre 1, and its read doesn't come there
abbrev pub reads_away : Run
reads_away = run one_mover (moves_over ++ read 2 (key_b ∷ []) (name_x ∷ []) ∷ [])

-- in one data centre the cohort was asked for the second round of a read, and what it asks the coordinator hasn't come there
abbrev pub asks_about : Run
asks_about = run two_shards (second_round ++ Deliver 9 ∷ [])
