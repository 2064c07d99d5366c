use Rattle.std.proofs.Common.{refl}
use Rattle.messages.specs.CohortBits.{shards_in, bits_of}
use Rattle.wire.specs.Reading.{sized_at, list_at, counted_at, insertion_at, mutation_at, change_at}
use Rattle.parcels.specs.Spelling.{number, fits_number, time, fits_time, node, fits_node, shard, fits_shard, txn, fits_txn, stamp, fits_stamp, writer, fits_writer, cohorts, fits_cohorts, asked, fits_asked, row_now, fits_row_now, row_at, fits_row_at, decision, fits_decision, txn_and_time, fits_txn_and_time, begin, fits_begin, prepare, fits_prepare, first_round, fits_first_round, second_round, fits_second_round, repl_begin, fits_repl_begin, repl_part, fits_repl_part, dep_check, fits_dep_check, dep_ok, fits_dep_ok, part_now, fits_part_now, part_at, fits_part_at}
use Rattle.parcels.specs.Reading.{time_at, shard_at, txn_at, stamp_at, writer_at, cohorts_at, column_at, row_at_at, rows_at_at, at_time_at, begin_at, prepare_at, yes_at, repl_begin_at, part_now_at, part_at_at, said_at, envelope_at, parcel_at}
use Rattle.parcels.proofs.law.worked_parcels.Goals as goal

pub returns-clause-begin : goal.returns-clause-begin
unfolding node fits_node time fits_time number fits_number txn fits_txn shard fits_shard writer fits_writer cohorts fits_cohorts begin fits_begin shards_in bits_of
returns-clause-begin c = refl

pub returns-clause-prepare : goal.returns-clause-prepare
unfolding node fits_node time fits_time number fits_number txn fits_txn shard fits_shard prepare fits_prepare
returns-clause-prepare c = refl

pub returns-clause-yes : goal.returns-clause-yes
unfolding node fits_node time fits_time number fits_number txn fits_txn
returns-clause-yes c = refl

pub returns-clause-commit : goal.returns-clause-commit
unfolding node fits_node time fits_time number fits_number txn fits_txn stamp fits_stamp decision fits_decision
returns-clause-commit c = refl

pub returns-clause-at : goal.returns-clause-at
unfolding node fits_node time fits_time number fits_number txn fits_txn stamp fits_stamp decision fits_decision
returns-clause-at c = refl

pub returns-clause-not_by : goal.returns-clause-not_by
unfolding node fits_node time fits_time number fits_number txn fits_txn txn_and_time fits_txn_and_time
returns-clause-not_by c = refl

pub returns-clause-check : goal.returns-clause-check
unfolding node fits_node time fits_time number fits_number txn fits_txn txn_and_time fits_txn_and_time
returns-clause-check c = refl

pub returns-clause-read : goal.returns-clause-read
unfolding node fits_node time fits_time number fits_number asked fits_asked first_round fits_first_round
returns-clause-read c = refl

pub returns-clause-read_at : goal.returns-clause-read_at
unfolding node fits_node time fits_time number fits_number asked fits_asked second_round fits_second_round
returns-clause-read_at c = refl

pub returns-clause-repl_begin : goal.returns-clause-repl_begin
unfolding node fits_node time fits_time number fits_number txn fits_txn shard fits_shard writer fits_writer cohorts fits_cohorts stamp fits_stamp repl_begin fits_repl_begin shards_in bits_of
returns-clause-repl_begin c = refl

pub returns-clause-repl_part : goal.returns-clause-repl_part
unfolding node fits_node time fits_time number fits_number txn fits_txn shard fits_shard stamp fits_stamp repl_part fits_repl_part
returns-clause-repl_part c = refl

pub returns-clause-notify : goal.returns-clause-notify
unfolding node fits_node time fits_time number fits_number txn fits_txn
returns-clause-notify c = refl

pub returns-clause-prepare_remote : goal.returns-clause-prepare_remote
unfolding node fits_node time fits_time number fits_number txn fits_txn
returns-clause-prepare_remote c = refl

pub returns-clause-dep_check : goal.returns-clause-dep_check
unfolding node fits_node time fits_time number fits_number txn fits_txn dep_check fits_dep_check
returns-clause-dep_check c = refl

pub returns-clause-dep_ok : goal.returns-clause-dep_ok
unfolding node fits_node time fits_time number fits_number txn fits_txn dep_ok fits_dep_ok
returns-clause-dep_ok c = refl

pub returns-clause-done : goal.returns-clause-done
unfolding node fits_node time fits_time number fits_number txn fits_txn stamp fits_stamp decision fits_decision
returns-clause-done c = refl

pub returns-clause-part_now : goal.returns-clause-part_now
unfolding node fits_node time fits_time number fits_number txn fits_txn shard fits_shard writer fits_writer row_now fits_row_now part_now fits_part_now
returns-clause-part_now c = refl

pub returns-clause-part_at : goal.returns-clause-part_at
unfolding node fits_node time fits_time number fits_number txn fits_txn shard fits_shard writer fits_writer row_at fits_row_at part_at fits_part_at
returns-clause-part_at c = refl

pub returns-clause-collected : goal.returns-clause-collected
unfolding node fits_node time fits_time number fits_number part_at fits_part_at
returns-clause-collected c = refl

pub returns-clause-begin_read : goal.returns-clause-begin_read
unfolding parcel_at envelope_at time_at said_at begin_at txn_at cohorts_at writer_at shard_at counted_at list_at change_at mutation_at insertion_at sized_at shards_in
returns-clause-begin_read c = refl

pub returns-clause-repl_begin_read : goal.returns-clause-repl_begin_read
unfolding parcel_at envelope_at time_at said_at repl_begin_at txn_at cohorts_at stamp_at writer_at shard_at counted_at list_at change_at mutation_at insertion_at sized_at shards_in
returns-clause-repl_begin_read c = refl

pub returns-clause-part_at_read : goal.returns-clause-part_at_read
unfolding parcel_at envelope_at time_at said_at part_at_at at_time_at rows_at_at row_at_at column_at txn_at writer_at shard_at counted_at list_at sized_at
returns-clause-part_at_read c = refl

pub returns-clause-unknown_kind : goal.returns-clause-unknown_kind
unfolding parcel_at envelope_at time_at said_at
returns-clause-unknown_kind c = refl

pub returns-clause-late_clock : goal.returns-clause-late_clock
unfolding parcel_at envelope_at time_at
returns-clause-late_clock c = refl

pub returns-clause-ninth_shard : goal.returns-clause-ninth_shard
unfolding parcel_at envelope_at time_at said_at prepare_at txn_at shard_at counted_at list_at
returns-clause-ninth_shard c = refl

pub returns-clause-unknown_answer : goal.returns-clause-unknown_answer
unfolding parcel_at envelope_at time_at said_at part_at_at at_time_at
returns-clause-unknown_answer c = refl

pub returns-clause-many_changes : goal.returns-clause-many_changes
unfolding parcel_at envelope_at time_at said_at begin_at txn_at counted_at
returns-clause-many_changes c = refl

pub returns-clause-many_rows : goal.returns-clause-many_rows
unfolding parcel_at envelope_at time_at said_at part_now_at counted_at
returns-clause-many_rows c = refl

pub returns-clause-trailing_byte : goal.returns-clause-trailing_byte
unfolding parcel_at envelope_at time_at said_at yes_at txn_at
returns-clause-trailing_byte c = refl

pub returns-clause-nothing : goal.returns-clause-nothing
unfolding parcel_at envelope_at
returns-clause-nothing c = refl

pub returns-clause-cut_clock : goal.returns-clause-cut_clock
unfolding parcel_at envelope_at time_at
returns-clause-cut_clock c = refl

pub returns-clause-without_kind : goal.returns-clause-without_kind
unfolding parcel_at envelope_at time_at said_at
returns-clause-without_kind c = refl

pub returns-clause-cut_txn : goal.returns-clause-cut_txn
unfolding parcel_at envelope_at time_at said_at yes_at txn_at
returns-clause-cut_txn c = refl
