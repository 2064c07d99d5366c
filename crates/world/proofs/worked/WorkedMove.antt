-- The past of a read right after a move, and the run of a move that is quiet.
use Rattle.std.proofs.Common.{refl, [], ◌∷◌, length}
use Rattle.slice.specs.declared.predicate.Predicate.TheVariants.{Names}
use Rattle.messages.specs.declared.op.Op.TheVariants as op
use Rattle.world.specs.Run.{Completed, Submission}
use Rattle.world.specs.Quiet.{handled, IsQuiet}
use Rattle.world.specs.Before.{Past}
use Rattle.world.specs.Worked.{operation, wrote, insert, family_f, key_a, key_b, name_x, two_by_two}
use Rattle.world.specs.WorkedMoves.{session_moves, reads_behind_a_commit}
use Rattle.world.proofs.worked.Closed.{each_found, own_past}

abbrev before_move : Completed
before_move = record { node = 4; number = 1; home = 0; op = op.Batch (insert key_b name_x 1 ∷ insert key_a name_x 2 ∷ []); outcome = wrote 3 0 }

abbrev after_move : Submission
after_move =
    record {
      session = 4;
      number = 3;
      home = 1;
      time = 11;
      op = op.Read (record { family = family_f; keys = key_a ∷ []; predicate = Names (name_x ∷ []) });
      dependencies = record { txn = operation 4 1; shard = 0 } ∷ [];
    }

pub behind_past : Past two_by_two reads_behind_a_commit (operation 4 3) (operation 4 1)
behind_past =
    own_past two_by_two reads_behind_a_commit before_move after_move (insert key_b name_x 1 ∷ insert key_a name_x 2 ∷ []) 0 2 refl refl refl refl refl refl refl refl

pub quiet : IsQuiet session_moves
quiet = each_found (handled session_moves) (length session_moves.sent) refl
