use Rattle.std.proofs.Common.{refl}
use Rattle.wire.specs.Reading.{sized_at, list_at, counted_at, insertion_at, deletion_at, range_deletion_at, mutation_at, change_at, flag_at, names_at, range_at, predicate_at, batch_at, read_at, move_at, request_at, body_at}
use Rattle.wire.specs.Replies.{commit_and_stamp, fits_commit_and_stamp}
use Rattle.wire.specs.Frames.{front_of}
use Rattle.wire.proofs.law.worked_frames.Goals as goal

pub returns-clause-insertion_read : goal.returns-clause-insertion_read
unfolding front_of body_at request_at batch_at move_at read_at predicate_at range_at names_at flag_at change_at mutation_at insertion_at deletion_at range_deletion_at counted_at list_at sized_at
returns-clause-insertion_read c = refl

pub returns-clause-read_read : goal.returns-clause-read_read
unfolding front_of body_at request_at batch_at move_at read_at predicate_at range_at names_at flag_at change_at mutation_at insertion_at deletion_at range_deletion_at counted_at list_at sized_at
returns-clause-read_read c = refl

pub returns-clause-too_long : goal.returns-clause-too_long
unfolding front_of body_at request_at batch_at move_at read_at predicate_at range_at names_at flag_at change_at mutation_at insertion_at deletion_at range_deletion_at counted_at list_at sized_at
returns-clause-too_long c = refl

pub returns-clause-unknown_request : goal.returns-clause-unknown_request
unfolding front_of body_at request_at batch_at move_at read_at predicate_at range_at names_at flag_at change_at mutation_at insertion_at deletion_at range_deletion_at counted_at list_at sized_at
returns-clause-unknown_request c = refl

pub returns-clause-unknown_change : goal.returns-clause-unknown_change
unfolding front_of body_at request_at batch_at move_at read_at predicate_at range_at names_at flag_at change_at mutation_at insertion_at deletion_at range_deletion_at counted_at list_at sized_at
returns-clause-unknown_change c = refl

pub returns-clause-unknown_predicate : goal.returns-clause-unknown_predicate
unfolding front_of body_at request_at batch_at move_at read_at predicate_at range_at names_at flag_at change_at mutation_at insertion_at deletion_at range_deletion_at counted_at list_at sized_at
returns-clause-unknown_predicate c = refl

pub returns-clause-flag_two : goal.returns-clause-flag_two
unfolding front_of body_at request_at batch_at move_at read_at predicate_at range_at names_at flag_at change_at mutation_at insertion_at deletion_at range_deletion_at counted_at list_at sized_at
returns-clause-flag_two c = refl

pub returns-clause-many_changes : goal.returns-clause-many_changes
unfolding front_of body_at request_at batch_at move_at read_at predicate_at range_at names_at flag_at change_at mutation_at insertion_at deletion_at range_deletion_at counted_at list_at sized_at
returns-clause-many_changes c = refl

pub returns-clause-many_keys : goal.returns-clause-many_keys
unfolding front_of body_at request_at batch_at move_at read_at predicate_at range_at names_at flag_at change_at mutation_at insertion_at deletion_at range_deletion_at counted_at list_at sized_at
returns-clause-many_keys c = refl

pub returns-clause-many_names : goal.returns-clause-many_names
unfolding front_of body_at request_at batch_at move_at read_at predicate_at range_at names_at flag_at change_at mutation_at insertion_at deletion_at range_deletion_at counted_at list_at sized_at
returns-clause-many_names c = refl

pub returns-clause-trailing_byte : goal.returns-clause-trailing_byte
unfolding front_of body_at request_at batch_at move_at read_at predicate_at range_at names_at flag_at change_at mutation_at insertion_at deletion_at range_deletion_at counted_at list_at sized_at
returns-clause-trailing_byte c = refl

pub returns-clause-empty_body : goal.returns-clause-empty_body
unfolding front_of body_at request_at batch_at move_at read_at predicate_at range_at names_at flag_at change_at mutation_at insertion_at deletion_at range_deletion_at counted_at list_at sized_at
returns-clause-empty_body c = refl

pub returns-clause-cut_count : goal.returns-clause-cut_count
unfolding front_of body_at request_at batch_at move_at read_at predicate_at range_at names_at flag_at change_at mutation_at insertion_at deletion_at range_deletion_at counted_at list_at sized_at
returns-clause-cut_count c = refl

pub returns-clause-greatest_length : goal.returns-clause-greatest_length
unfolding front_of body_at request_at batch_at move_at read_at predicate_at range_at names_at flag_at change_at mutation_at insertion_at deletion_at range_deletion_at counted_at list_at sized_at
returns-clause-greatest_length c = refl

pub returns-clause-cut_read : goal.returns-clause-cut_read
unfolding front_of body_at request_at batch_at move_at read_at predicate_at range_at names_at flag_at change_at mutation_at insertion_at deletion_at range_deletion_at counted_at list_at sized_at
returns-clause-cut_read c = refl

pub returns-clause-wrote : goal.returns-clause-wrote
unfolding commit_and_stamp fits_commit_and_stamp
returns-clause-wrote c = refl

pub returns-clause-move_read : goal.returns-clause-move_read
unfolding front_of body_at request_at batch_at move_at read_at predicate_at range_at names_at flag_at change_at mutation_at insertion_at deletion_at range_deletion_at counted_at list_at sized_at
returns-clause-move_read c = refl

pub returns-clause-cut_move : goal.returns-clause-cut_move
unfolding front_of body_at request_at batch_at move_at read_at predicate_at range_at names_at flag_at change_at mutation_at insertion_at deletion_at range_deletion_at counted_at list_at sized_at
returns-clause-cut_move c = refl

pub returns-clause-long_move : goal.returns-clause-long_move
unfolding front_of body_at request_at batch_at move_at read_at predicate_at range_at names_at flag_at change_at mutation_at insertion_at deletion_at range_deletion_at counted_at list_at sized_at
returns-clause-long_move c = refl
