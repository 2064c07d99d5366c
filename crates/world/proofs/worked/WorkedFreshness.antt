-- In a worked run, the answer that a session kept, and what its shard had applied by then.
use Rattle.std.proofs.Common.{◌≡◌, refl, List, [], ◌∷◌, nat_le, nat_lt, ◌≤◌, ◌<◌, ℕ, arith}
use Rattle.std.proofs.lemmas.Bool.Decides.{nat_tests}
use Rattle.std.specs.Prelude.{true, length}
use Rattle.slice.specs.declared.predicate.Predicate.TheVariants.{Names}
use Rattle.store.specs.declared.part.Applied.{Applied}
use Rattle.messages.specs.declared.rows_now.RowNow.{RowNow}
use Rattle.messages.specs.declared.body.Body.TheVariants.{PartNow}
use Rattle.messages.specs.declared.envelope.Envelope.{Envelope}
use Rattle.world.specs.Run.{RunEvent, Deliver, run}
use Rattle.world.specs.Fresh.{IsKept, WasApplied}
use Rattle.world.specs.Worked.{operation, column, insert, write, read, family_f, key_b, name_x, one_shard, insert_and_read_back}
use Rattle.shard.proofs.worked.Closed.{at}

-- the column was inserted, and is then read
abbrev asked : List RunEvent
asked = write 1 (insert key_b name_x 1 ∷ []) ∷ Deliver 0 ∷ Deliver 1 ∷ read 1 (key_b ∷ []) (name_x ∷ []) ∷ []

abbrev shown : RowNow
shown = record { key = key_b; columns = column name_x 1 ∷ []; writers = record { txn = operation 1 1; shard = 0 } ∷ []; evt = 2; lvt = 5 }

abbrev answer : Envelope
answer = record { from = 0; to = 1; time = 5; body = PartNow 2 (shown ∷ []) }

pub answer_kept : (e : Envelope) × IsKept one_shard insert_and_read_back 1 2 3 e × (e.from ≡ 0)
answer_kept = (
  answer,
  record {
    before = write 1 (insert key_b name_x 1 ∷ []) ∷ Deliver 0 ∷ Deliver 1 ∷ read 1 (key_b ∷ []) (name_x ∷ []) ∷ Deliver 2 ∷ [];
    after = [];
    delivery = refl;
    message = refl;
    address = refl;
    rows = shown ∷ [];
    body = refl;
    count = refl;
    read = record { family = family_f; keys = key_b ∷ []; predicate = Names (name_x ∷ []) };
    heard = [];
    first_round = refl;
    missing = refl;
  },
  refl,
)

abbrev inserted : Applied
inserted =
    record {
      part = record { writer = record { txn = operation 1 1; shard = 0 }; batch = insert key_b name_x 1 ∷ [] };
      commit = 2;
      stamp = record { time = 2; node = 0 };
    }

at_most : (n m : ℕ) → nat_le n m ≡ true → n ≤ m
at_most n m e = grind (arith, nat_tests)

below : (n m : ℕ) → nat_lt n m ≡ true → n < m
below n m e = grind (arith, nat_tests)

pub insert_applied : (x : Applied) × WasApplied one_shard insert_and_read_back 0 3 x × (x.part.batch ≡ insert key_b name_x 1 ∷ [])
insert_applied = (
  inserted,
  record {
    before = asked;
    event = Deliver 2;
    after = Deliver 3 ∷ [];
    sending = refl;
    not_sent = at_most (length (run one_shard asked).sent) 3 refl;
    by_then = below 3 4 refl;
    applied = at ((run one_shard asked).shards 0).applied inserted 0 refl refl;
  },
  refl,
)
