-- Worked runs of drains: how many deliveries they take, beside the bound.
use Rattle.std.specs.Prelude.{ℕ, ◌-◌, [], ◌∷◌, ◌++◌, length}
use Rattle.messages.specs.Topology.{TopologyValue}
use Rattle.world.specs.Run.{Run, run}
use Rattle.world.specs.Worked.{insert, write, deliver, key_a, key_b, name_x, two_shards, b_and_a, two_by_two}
use Rattle.world.specs.WorkedTimes.{two_shards_of_three, both_wait}
use Rattle.world.specs.Drains.{deliveries_left, drained}

-- how many deliveries a drain takes, if it may take as many as are left
abbrev pub deliveries_taken : TopologyValue → Run → ℕ
deliveries_taken top w = length (drained top (deliveries_left top w) w).events - length w.events

-- a batch for both shards of two data centres is submitted
abbrev pub batch_for_both : Run
batch_for_both = run two_by_two (write 4 (insert key_b name_x 1 ∷ insert key_a name_x 2 ∷ []) ∷ [])

-- two reads wait for a batch that isn't decided
abbrev pub two_reads_wait : Run
two_reads_wait = run two_shards_of_three both_wait

-- the coordinator has answered for one of them that the batch is excluded at its time
abbrev pub one_is_answered : Run
one_is_answered = run two_shards_of_three (both_wait ++ deliver (8 ∷ []))

-- a batch for two shards is submitted
abbrev pub batch_for_two : Run
batch_for_two = run two_shards (b_and_a ∷ [])

-- it is prepared on the cohort
abbrev pub batch_is_prepared : Run
batch_is_prepared = run two_shards (b_and_a ∷ deliver (0 ∷ 1 ∷ []))
