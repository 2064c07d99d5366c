-- The pasts of operations in worked runs, and a worked run that is quiet.
use Rattle.std.proofs.Common.{◌≡◌, refl, ℕ, inl, inr, true, nat_lt, List, [], ◌∷◌, length, slice_index_or}
use Rattle.slice.specs.declared.predicate.Predicate.TheVariants.{Names}
use Rattle.slice.specs.declared.read.Read.{Read}
use Rattle.messages.specs.declared.op.Op.TheVariants as op
use Rattle.messages.specs.declared.outcome.Outcome.TheVariants as outcome
use Rattle.messages.specs.Shard.{Decision}
use Rattle.shard.proofs.worked.Closed.{below, at}
use Rattle.world.specs.Run.{Completed, Submission}
use Rattle.world.specs.Histories.{decisions_in}
use Rattle.world.specs.Quiet.{handled, IsQuiet}
use Rattle.world.specs.Before.{completes, IsEarlier, RestsOn, Past}
use Rattle.world.proofs.worked.Closed.{each_found, own_past}
use Rattle.world.specs.Worked.{operation, column, row, wrote, insert, family_f, key_b, key_c, key_d, name_x, name_y, name_z, two_centres, three_at_home, dependency_holds_back, dependency_through_a_read, write_is_replicated}

-- ## A session's own write

abbrev first_write : Completed
first_write = record { node = 2; number = 1; home = 0; op = op.Batch (insert key_b name_x 1 ∷ []); outcome = wrote 2 0 }

abbrev second_write : Submission
second_write = record { session = 2; number = 2; home = 0; time = 4; op = op.Batch (insert key_b name_y 2 ∷ []); dependencies = record { txn = operation 2 1; shard = 0 } ∷ [] }

pub own_write : Past two_centres dependency_holds_back (operation 2 2) (operation 2 1)
own_write = own_past two_centres dependency_holds_back first_write second_write (insert key_b name_x 1 ∷ []) 0 1 refl refl refl refl refl refl refl refl

-- ## Writes that a session read

abbrev read_of : List ℕ → List ℕ → Read
read_of key name = record { family = family_f; keys = key ∷ []; predicate = Names (name ∷ []) }

abbrev first_read : Completed
first_read =
    record {
      node = 4;
      number = 1;
      home = 0;
      op = op.Read (read_of key_b name_x);
      outcome = outcome.Read 2 (row key_b (column name_x 1 ∷ []) ∷ []);
    }

abbrev second_read : Completed
second_read =
    record {
      node = 4;
      number = 2;
      home = 0;
      op = op.Read (read_of key_c name_y);
      outcome = outcome.Read 3 (row key_c (column name_y 1 ∷ []) ∷ []);
    }

abbrev last_write : Submission
last_write = record { session = 4; number = 3; home = 0; time = 9; op = op.Batch (insert key_d name_z 1 ∷ []); dependencies = record { txn = operation 2 1; shard = 0 } ∷ record { txn = operation 3 1; shard = 0 } ∷ [] }

-- what wrote what a session reads
abbrev decided : ℕ → ℕ → Decision
decided session time = record { txn = operation session 1; commit = time; stamp = record { time = time; node = 0 } }

first_rests : RestsOn three_at_home dependency_through_a_read (operation 4 1) (operation 2 1)
first_rests = (
  first_read,
  (at dependency_through_a_read.transcript first_read 0 refl refl, refl),
  (
    decided 2 2,
    key_b,
    at (decisions_in three_at_home dependency_through_a_read 0) (decided 2 2) 0 refl refl,
    refl,
    at (key_b ∷ []) key_b 0 refl refl,
    inl (name_x, refl, inl (refl, refl)),
  ),
)

second_rests : RestsOn three_at_home dependency_through_a_read (operation 4 2) (operation 3 1)
second_rests = (
  second_read,
  (at dependency_through_a_read.transcript second_read 1 refl refl, refl),
  (
    decided 3 3,
    key_c,
    at (decisions_in three_at_home dependency_through_a_read 0) (decided 3 3) 1 refl refl,
    refl,
    at (key_c ∷ []) key_c 0 refl refl,
    inl (name_y, refl, inl (refl, refl)),
  ),
)

-- the read of this number ended before the last write
read_before_write : (number : ℕ) (c : Completed) (place : ℕ) → nat_lt place (length dependency_through_a_read.transcript) ≡ true → slice_index_or dependency_through_a_read.transcript place c ≡ c → record { session = c.node; number = c.number } ≡ operation 4 number → completes c.outcome ≡ true → nat_lt number 3 ≡ true → IsEarlier dependency_through_a_read (operation 4 number) (operation 4 3)
read_before_write number c place is_place is named done smaller = (
  (c, (at dependency_through_a_read.transcript c place is_place is, named), done),
  (last_write, at dependency_through_a_read.submitted last_write 4 refl refl, refl),
  refl,
  below number 3 smaller,
)

pub read_first : Past three_at_home dependency_through_a_read (operation 4 3) (operation 2 1)
read_first = (
  (insert key_b name_x 1 ∷ [], refl),
  (operation 4 1 ∷ [], (inr first_rests, inl (read_before_write 1 first_read 0 refl refl refl refl refl))),
)

pub read_second : Past three_at_home dependency_through_a_read (operation 4 3) (operation 3 1)
read_second = (
  (insert key_c name_y 1 ∷ [], refl),
  (operation 4 2 ∷ [], (inr second_rests, inl (read_before_write 2 second_read 1 refl refl refl refl refl))),
)

-- ## A quiet run

pub quiet : IsQuiet write_is_replicated
quiet = each_found (handled write_is_replicated) (length write_is_replicated.sent) refl
