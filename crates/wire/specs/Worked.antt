-- Worked frames: a family f (102), a row b (98), columns b to d and x (120), a value 1 (49).
use Rattle.std.specs.Prelude.{ℕ, List, [], ◌∷◌, true, Ok}
use Rattle.column_family.specs.declared.batch.Mutation.{Mutation}
use Rattle.column_family.specs.declared.batch.Mutation.TheVariants.{Insert}
use Rattle.slice.specs.declared.predicate.Predicate.{Predicate}
use Rattle.slice.specs.declared.predicate.Predicate.TheVariants.{Names, Range}
use Rattle.messages.specs.declared.op.Op.{Op}
use Rattle.messages.specs.declared.op.Op.TheVariants as ops
use Rattle.messages.specs.declared.outcome.Outcome.TheVariants as outcomes
use Rattle.wire.specs.Replies.{Reply}

-- a batch of one change, of row b
abbrev pub batch_of : Mutation → Op
batch_of m = ops.Batch (record { row = record { family = 102 ∷ []; key = 98 ∷ [] }; mutation = m } ∷ [])

-- a read of row b
abbrev pub read_of : Predicate → Op
read_of p = ops.Read (record { family = 102 ∷ []; keys = (98 ∷ []) ∷ []; predicate = p })

-- x = 1 is inserted
abbrev pub insertion : Op
insertion = batch_of (Insert (120 ∷ []) (49 ∷ []))

-- 00000013 01 00000001 0166 000162 00 000178 00000001 31
abbrev pub insertion_frame : List ℕ
insertion_frame = 0 ∷ 0 ∷ 0 ∷ 19 ∷ 1 ∷ 0 ∷ 0 ∷ 0 ∷ 1 ∷ 1 ∷ 102 ∷ 0 ∷ 1 ∷ 98 ∷ 0 ∷ 0 ∷ 1 ∷ 120 ∷ 0 ∷ 0 ∷ 0 ∷ 1 ∷ 49 ∷ []

-- column x is deleted
abbrev pub deletion_frame : List ℕ
deletion_frame = 0 ∷ 0 ∷ 0 ∷ 14 ∷ 1 ∷ 0 ∷ 0 ∷ 0 ∷ 1 ∷ 1 ∷ 102 ∷ 0 ∷ 1 ∷ 98 ∷ 1 ∷ 0 ∷ 1 ∷ 120 ∷ []

-- the row is deleted
abbrev pub row_deletion_frame : List ℕ
row_deletion_frame = 0 ∷ 0 ∷ 0 ∷ 11 ∷ 1 ∷ 0 ∷ 0 ∷ 0 ∷ 1 ∷ 1 ∷ 102 ∷ 0 ∷ 1 ∷ 98 ∷ 2 ∷ []

-- columns b to c are deleted
abbrev pub range_deletion_frame : List ℕ
range_deletion_frame = 0 ∷ 0 ∷ 0 ∷ 17 ∷ 1 ∷ 0 ∷ 0 ∷ 0 ∷ 1 ∷ 1 ∷ 102 ∷ 0 ∷ 1 ∷ 98 ∷ 3 ∷ 0 ∷ 1 ∷ 98 ∷ 0 ∷ 1 ∷ 99 ∷ []

-- column x is read
abbrev pub read : Op
read = read_of (Names ((120 ∷ []) ∷ []))

-- 00000012 02 0166 00000001 000162 00 00000001 000178
abbrev pub read_frame : List ℕ
read_frame = 0 ∷ 0 ∷ 0 ∷ 18 ∷ 2 ∷ 1 ∷ 102 ∷ 0 ∷ 0 ∷ 0 ∷ 1 ∷ 0 ∷ 1 ∷ 98 ∷ 0 ∷ 0 ∷ 0 ∷ 0 ∷ 1 ∷ 0 ∷ 1 ∷ 120 ∷ []

-- one column is read, from d downwards
abbrev pub range : Op
range = read_of (Range (100 ∷ []) [] true 1)

-- 00000015 02 0166 00000001 000162 01 000164 0000 01 00000001
abbrev pub range_frame : List ℕ
range_frame = 0 ∷ 0 ∷ 0 ∷ 21 ∷ 2 ∷ 1 ∷ 102 ∷ 0 ∷ 0 ∷ 0 ∷ 1 ∷ 0 ∷ 1 ∷ 98 ∷ 1 ∷ 0 ∷ 1 ∷ 100 ∷ 0 ∷ 0 ∷ 1 ∷ 0 ∷ 0 ∷ 0 ∷ 1 ∷ []

-- the session moves to data centre 1
abbrev pub move : Op
move = ops.Move 1

-- 00000002 03 01
abbrev pub move_frame : List ℕ
move_frame = 0 ∷ 0 ∷ 0 ∷ 2 ∷ 3 ∷ 1 ∷ []

-- commit time 2, stamp (2, 0)
abbrev pub wrote : Reply
wrote = Ok (outcomes.Wrote 2 (record { time = 2; node = 0 }))

-- 00000013 81 0000000000000002 0000000000000002 0000
abbrev pub wrote_frame : List ℕ
wrote_frame = 0 ∷ 0 ∷ 0 ∷ 19 ∷ 129 ∷ 0 ∷ 0 ∷ 0 ∷ 0 ∷ 0 ∷ 0 ∷ 0 ∷ 2 ∷ 0 ∷ 0 ∷ 0 ∷ 0 ∷ 0 ∷ 0 ∷ 0 ∷ 2 ∷ 0 ∷ 0 ∷ []

-- row b at 2, with x = 1
abbrev pub answered : Reply
answered = Ok (outcomes.Read 2 (record { key = 98 ∷ []; columns = record { name = 120 ∷ []; value = 49 ∷ [] } ∷ [] } ∷ []))

-- 0000001c 82 0000000000000002 00000001 000162 00000001 000178 00000001 31
abbrev pub answered_frame : List ℕ
answered_frame = 0 ∷ 0 ∷ 0 ∷ 28 ∷ 130 ∷ 0 ∷ 0 ∷ 0 ∷ 0 ∷ 0 ∷ 0 ∷ 0 ∷ 2 ∷ 0 ∷ 0 ∷ 0 ∷ 1 ∷ 0 ∷ 1 ∷ 98 ∷ 0 ∷ 0 ∷ 0 ∷ 1 ∷ 0 ∷ 1 ∷ 120 ∷ 0 ∷ 0 ∷ 0 ∷ 1 ∷ 49 ∷ []

-- 00000001 83
abbrev pub collected_frame : List ℕ
collected_frame = 0 ∷ 0 ∷ 0 ∷ 1 ∷ 131 ∷ []

-- it moved to data centre 1, and its floor there is 6
abbrev pub moved : Reply
moved = Ok (outcomes.Moved 1 6)

-- 0000000a 85 01 0000000000000006
abbrev pub moved_frame : List ℕ
moved_frame = 0 ∷ 0 ∷ 0 ∷ 10 ∷ 133 ∷ 1 ∷ 0 ∷ 0 ∷ 0 ∷ 0 ∷ 0 ∷ 0 ∷ 0 ∷ 6 ∷ []

-- 00000003 84 0007
abbrev pub refused_frame : List ℕ
refused_frame = 0 ∷ 0 ∷ 0 ∷ 3 ∷ 132 ∷ 0 ∷ 7 ∷ []

-- 00000003 84 001a
abbrev pub present_home_frame : List ℕ
present_home_frame = 0 ∷ 0 ∷ 0 ∷ 3 ∷ 132 ∷ 0 ∷ 26 ∷ []

-- faults, each the first of its bytes
abbrev pub too_long : List ℕ
too_long = 1 ∷ 0 ∷ 0 ∷ 1 ∷ []

abbrev pub unknown_request : List ℕ
unknown_request = 0 ∷ 0 ∷ 0 ∷ 1 ∷ 5 ∷ []

abbrev pub unknown_change : List ℕ
unknown_change = 0 ∷ 0 ∷ 0 ∷ 11 ∷ 1 ∷ 0 ∷ 0 ∷ 0 ∷ 1 ∷ 1 ∷ 102 ∷ 0 ∷ 1 ∷ 98 ∷ 4 ∷ []

abbrev pub unknown_predicate : List ℕ
unknown_predicate = 0 ∷ 0 ∷ 0 ∷ 11 ∷ 2 ∷ 1 ∷ 102 ∷ 0 ∷ 0 ∷ 0 ∷ 1 ∷ 0 ∷ 1 ∷ 98 ∷ 2 ∷ []

abbrev pub flag_two : List ℕ
flag_two = 0 ∷ 0 ∷ 0 ∷ 20 ∷ 2 ∷ 1 ∷ 102 ∷ 0 ∷ 0 ∷ 0 ∷ 1 ∷ 0 ∷ 1 ∷ 98 ∷ 1 ∷ 0 ∷ 0 ∷ 0 ∷ 0 ∷ 2 ∷ 0 ∷ 0 ∷ 0 ∷ 100 ∷ []

abbrev pub many_changes : List ℕ
many_changes = 0 ∷ 0 ∷ 0 ∷ 5 ∷ 1 ∷ 0 ∷ 0 ∷ 0 ∷ 9 ∷ []

abbrev pub many_keys : List ℕ
many_keys = 0 ∷ 0 ∷ 0 ∷ 7 ∷ 2 ∷ 1 ∷ 102 ∷ 255 ∷ 255 ∷ 255 ∷ 255 ∷ []

abbrev pub many_names : List ℕ
many_names = 0 ∷ 0 ∷ 0 ∷ 15 ∷ 2 ∷ 1 ∷ 102 ∷ 0 ∷ 0 ∷ 0 ∷ 1 ∷ 0 ∷ 1 ∷ 98 ∷ 0 ∷ 0 ∷ 0 ∷ 0 ∷ 1 ∷ []

abbrev pub trailing_byte : List ℕ
trailing_byte = 0 ∷ 0 ∷ 0 ∷ 19 ∷ 2 ∷ 1 ∷ 102 ∷ 0 ∷ 0 ∷ 0 ∷ 1 ∷ 0 ∷ 1 ∷ 98 ∷ 0 ∷ 0 ∷ 0 ∷ 0 ∷ 1 ∷ 0 ∷ 1 ∷ 120 ∷ 0 ∷ []

abbrev pub empty_body : List ℕ
empty_body = 0 ∷ 0 ∷ 0 ∷ 0 ∷ []

abbrev pub cut_count : List ℕ
cut_count = 0 ∷ 0 ∷ 0 ∷ 4 ∷ 2 ∷ 1 ∷ 102 ∷ 0 ∷ []

abbrev pub cut_move : List ℕ
cut_move = 0 ∷ 0 ∷ 0 ∷ 1 ∷ 3 ∷ []

abbrev pub long_move : List ℕ
long_move = 0 ∷ 0 ∷ 0 ∷ 3 ∷ 3 ∷ 1 ∷ 0 ∷ []

-- no whole frame yet: the greatest length and nothing more, and a read without its last byte
abbrev pub greatest_length : List ℕ
greatest_length = 1 ∷ 0 ∷ 0 ∷ 0 ∷ []

abbrev pub cut_read : List ℕ
cut_read = 0 ∷ 0 ∷ 0 ∷ 18 ∷ 2 ∷ 1 ∷ 102 ∷ 0 ∷ 0 ∷ 0 ∷ 1 ∷ 0 ∷ 1 ∷ 98 ∷ 0 ∷ 0 ∷ 0 ∷ 0 ∷ 1 ∷ 0 ∷ 1 ∷ []
