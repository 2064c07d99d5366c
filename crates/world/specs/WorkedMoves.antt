-- Worked runs of sessions that move, each with what comes of it.
use Rattle.std.specs.Prelude.{ℕ, List, [], ◌∷◌, ◌++◌, map}
use Rattle.messages.specs.declared.op.Op.TheVariants as op
use Rattle.messages.specs.Topology.{TopologyValue}
use Rattle.world.specs.Run.{Run, RunEvent, Submit, run}
use Rattle.world.specs.Worked.{actors, insert, write, read, deliver, key_a, key_b, key_c, name_x, name_y, two_centres, two_by_two}

-- a session moves to a data centre
abbrev pub move : ℕ → ℕ → RunEvent
move session dc = Submit session (op.Move dc)

-- the data centres where what ended was submitted, oldest first
abbrev pub homes_in : Run → List ℕ
homes_in w = map (λ c. c.home) w.transcript

-- ## One session

-- two data centres of one shard: the nodes 0 and 1, and the session 2, at home in data centre 0
abbrev pub one_mover : TopologyValue
one_mover = actors 2 1 (0 ∷ [])

-- It writes, and is told. It moves while its write is under way: the other data centre, which is asked first, remembers that
-- and answers once the write is committed there
abbrev pub moves_over : List RunEvent
moves_over = write 2 (insert key_b name_x 1 ∷ []) ∷ deliver (0 ∷ 1 ∷ []) ++ move 2 1 ∷ deliver (3 ∷ 2 ∷ 4 ∷ [])

abbrev pub session_has_moved : Run
session_has_moved = run one_mover moves_over

-- there it reads its write
abbrev pub reads_there : List RunEvent
reads_there = moves_over ++ read 2 (key_b ∷ []) (name_x ∷ []) ∷ deliver (5 ∷ 6 ∷ [])

abbrev pub session_moves : Run
session_moves = run one_mover reads_there

-- It moves back. Meanwhile the answer to its first move comes again. It reads its write, at an earlier time than before
abbrev pub session_moves_back : Run
session_moves_back =
    run one_mover (reads_there ++ move 2 0 ∷ deliver (4 ∷ 7 ∷ 4 ∷ 8 ∷ []) ++ read 2 (key_b ∷ []) (name_x ∷ []) ∷ deliver (9 ∷ 10 ∷ []))

-- it moves before it did anything
abbrev pub move_without_dependencies : Run
move_without_dependencies = run one_mover (move 2 1 ∷ [])

-- ## Two dependencies

-- the same data centres, with the sessions 2 and 3 at home in data centre 0
abbrev pub two_writers : TopologyValue
two_writers = actors 2 1 (0 ∷ 0 ∷ [])

-- Session 2 writes, and reads what session 3 wrote before. It moves. Its own write comes there first, then the other; it is
-- told of the other one, twice
abbrev pub half_answered : List RunEvent
half_answered =
    write 3 (insert key_c name_y 1 ∷ []) ∷ deliver (0 ∷ 1 ∷ []) ++ write 2 (insert key_b name_x 1 ∷ []) ∷ deliver (3 ∷ 4 ∷ [])
    ++ read 2 (key_c ∷ []) (name_y ∷ []) ∷ deliver (6 ∷ 7 ∷ []) ++ move 2 1 ∷ deliver (8 ∷ 9 ∷ 5 ∷ 2 ∷ 11 ∷ 11 ∷ [])

abbrev pub move_is_half_answered : Run
move_is_half_answered = run two_writers half_answered

-- then of its own, which has the lesser commit time there
abbrev pub move_waits_for_each : Run
move_waits_for_each = run two_writers (half_answered ++ deliver (10 ∷ []))

-- ## Two shards

-- A batch for both shards is decided in the second data centre, and its cohort there doesn't know it yet. The session moves
-- there, and reads the cohort's row: the shard asks the coordinator
abbrev pub reads_behind_a_commit : Run
reads_behind_a_commit =
    run two_by_two
    (write 4 (insert key_b name_x 1 ∷ insert key_a name_x 2 ∷ []) ∷ deliver (0 ∷ 1 ∷ 2 ∷ 3 ∷ 4 ∷ 5 ∷ 6 ∷ 7 ∷ 8 ∷ 9 ∷ [])
    ++ move 4 1 ∷ deliver (11 ∷ 12 ∷ []) ++ read 4 (key_a ∷ []) (name_x ∷ []) ∷ deliver (13 ∷ 14 ∷ 15 ∷ 16 ∷ 17 ∷ 18 ∷ []))

-- ## Earlier times

-- A session writes in the second data centre. Session 2 reads that in the first, where it is committed later; it moves to
-- the second, and reads the same there
abbrev pub reads_at_earlier_times : Run
reads_at_earlier_times =
    run two_centres
    (write 3 (insert key_b name_x 2 ∷ []) ∷ deliver (0 ∷ 2 ∷ []) ++ read 2 (key_b ∷ []) (name_x ∷ []) ∷ deliver (3 ∷ 4 ∷ [])
    ++ move 2 1 ∷ deliver (5 ∷ 6 ∷ []) ++ read 2 (key_b ∷ []) (name_x ∷ []) ∷ deliver (7 ∷ 8 ∷ []))
