-- Worked runs against forms that resemble the promise of fresh reads.
use Rattle.std.proofs.Common.{ap, sym, refl, Bool, false, [], ◌∷◌, ◌++◌, List}
use Rattle.std.specs.Prelude.{Option, Some, None}
use Rattle.column_family.specs.History.{Stamped, newest_at}
use Rattle.logical_time.specs.Stamps.{is_older}
use Rattle.store.specs.declared.part.Applied.{Applied}
use Rattle.messages.specs.declared.body.Body.TheVariants as body
use Rattle.messages.specs.declared.envelope.Envelope.{Envelope}
use Rattle.messages.specs.Words.{envelope}
use Rattle.shard.proofs.lists.Lists.{no_truth}
use Rattle.shard.proofs.worked.Closed.{below, not_more, at}
use Rattle.world.specs.Run.{RunEvent, Deliver, run}
use Rattle.world.specs.Histories.{history_of}
use Rattle.world.specs.Fresh.{IsKept, WasApplied}
use Rattle.world.specs.Promises.{IsAnswered}
use Rattle.world.specs.Worked.{family_f, column, row, insert, write, read, deliver, key_b, key_d, name_x, name_y, one_shard, two_shards, insert_and_read_back, read_beside_a_write, write_after_the_answer}
use Rattle.world.specs.Lookalikes.{ReadsAreNewer, OtherRowsAreFresh, OtherColumnsAreFresh, ReadsAreFreshAtDelivery}
use Rattle.world.proofs.worked.Closed.{not_there}
use Rattle.world.proofs.worked.WorkedEntries.{x_of, stamp, part_applied, empty_row, row_by}
use Rattle.world.proofs.worked.RefutedReads.{back, back_answered, of_nothing, nothing_answered}

-- ## As new, and no newer

abbrev before_reading : List RunEvent
before_reading = write 1 (insert key_b name_x 1 ∷ []) ∷ deliver (0 ∷ 1 ∷ []) ++ read 1 (key_b ∷ []) (name_x ∷ []) ∷ []

abbrev told_back : Envelope
told_back = envelope 0 1 5 (body.PartNow 2 (row_by 1 key_b (column name_x 1 ∷ []) 2 5 ∷ []))

back_kept : IsKept one_shard insert_and_read_back 1 2 3 told_back
back_kept =
    record {
      before = before_reading ++ Deliver 2 ∷ [];
      after = [];
      delivery = refl;
      message = refl;
      address = refl;
      rows = row_by 1 key_b (column name_x 1 ∷ []) 2 5 ∷ [];
      body = refl;
      count = refl;
      read = x_of (key_b ∷ []);
      heard = [];
      first_round = refl;
      missing = refl;
    }

abbrev x_applied : Applied
x_applied = part_applied 1 (insert key_b name_x 1 ∷ []) 2

x_was_applied : WasApplied one_shard insert_and_read_back 0 3 x_applied
x_was_applied =
    record {
      before = before_reading;
      event = Deliver 2;
      after = Deliver 3 ∷ [];
      sending = refl;
      not_sent = not_more 3 3 refl;
      by_then = below 3 4 refl;
      applied = at ((run one_shard before_reading).shards 0).applied x_applied 0 refl refl;
    }

-- whether there is a mutation, and it is newer than what was applied
abbrev is_newer : Option Stamped → Bool
is_newer None = false
is_newer (Some n) = is_older (stamp 2 0) n.stamp

pub newer : ¬ (ReadsAreNewer one_shard insert_and_read_back)
newer all =
    let r =
    all back (x_of (key_b ∷ [])) 2 (row key_b (column name_x 1 ∷ []) ∷ []) 3 told_back x_applied key_b name_x
    back_answered back_kept x_was_applied (at (key_b ∷ []) key_b 0 refl refl) refl refl
    in
    no_truth (is_newer (Some r.0)) r.2 (sym (ap is_newer r.1))

-- ## Where it asked

abbrev before_asking : List RunEvent
before_asking =
    write 2 (insert key_b name_y 1 ∷ insert key_d name_x 2 ∷ []) ∷ deliver (0 ∷ 1 ∷ []) ++ read 3 (key_b ∷ []) (name_x ∷ []) ∷ []

abbrev told_nothing : Envelope
told_nothing = envelope 0 3 3 (body.PartNow 1 (empty_row key_b 3 ∷ []))

nothing_kept : IsKept two_shards read_beside_a_write 3 1 3 told_nothing
nothing_kept =
    record {
      before = before_asking ++ Deliver 2 ∷ [];
      after = [];
      delivery = refl;
      message = refl;
      address = refl;
      rows = empty_row key_b 3 ∷ [];
      body = refl;
      count = refl;
      read = x_of (key_b ∷ []);
      heard = [];
      first_round = refl;
      missing = refl;
    }

abbrev beside : Applied
beside = part_applied 2 (insert key_b name_y 1 ∷ insert key_d name_x 2 ∷ []) 2

beside_was_applied : WasApplied two_shards read_beside_a_write 0 3 beside
beside_was_applied =
    record {
      before = before_asking;
      event = Deliver 2;
      after = Deliver 3 ∷ [];
      sending = refl;
      not_sent = not_more 3 3 refl;
      by_then = below 3 4 refl;
      applied = at ((run two_shards before_asking).shards 0).applied beside 0 refl refl;
    }

pub other_rows : ¬ (OtherRowsAreFresh two_shards read_beside_a_write)
other_rows all =
    let r =
    all of_nothing (x_of (key_b ∷ [])) 0 (row key_b [] ∷ []) 3 told_nothing beside key_d name_x
    nothing_answered nothing_kept beside_was_applied refl refl
    in
    not_there (newest_at (history_of two_shards read_beside_a_write 0) 0 (record { row = record { family = family_f; key = key_d }; name = name_x })) r.0 refl r.1

pub other_columns : ¬ (OtherColumnsAreFresh two_shards read_beside_a_write)
other_columns all =
    let r =
    all of_nothing (x_of (key_b ∷ [])) 0 (row key_b [] ∷ []) 3 told_nothing beside key_b name_y
    nothing_answered nothing_kept beside_was_applied (at (key_b ∷ []) key_b 0 refl refl) refl
    in
    not_there (newest_at (history_of two_shards read_beside_a_write 0) 0 (record { row = record { family = family_f; key = key_b }; name = name_y })) r.0 refl r.1

-- ## When it was sent

abbrev told_before : Envelope
told_before = envelope 0 3 2 (body.PartNow 1 (empty_row key_b 2 ∷ []))

abbrev kept_after : IsKept two_shards write_after_the_answer 3 1 1 told_before
kept_after =
    record {
      before = read 3 (key_b ∷ []) (name_x ∷ []) ∷ Deliver 0 ∷ write 2 (insert key_b name_x 1 ∷ []) ∷ Deliver 2 ∷ [];
      after = [];
      delivery = refl;
      message = refl;
      address = refl;
      rows = empty_row key_b 2 ∷ [];
      body = refl;
      count = refl;
      read = x_of (key_b ∷ []);
      heard = [];
      first_round = refl;
      missing = refl;
    }

abbrev applied_after : Applied
applied_after = part_applied 2 (insert key_b name_x 1 ∷ []) 3

after_answered : IsAnswered write_after_the_answer of_nothing (x_of (key_b ∷ [])) 0 (row key_b [] ∷ [])
after_answered = record { completed = at write_after_the_answer.transcript of_nothing 0 refl refl; op = refl; outcome = refl }

pub at_delivery : ¬ (ReadsAreFreshAtDelivery two_shards write_after_the_answer)
at_delivery all =
    let r =
    all of_nothing (x_of (key_b ∷ [])) 0 (row key_b [] ∷ []) 1 told_before applied_after key_b name_x
    after_answered kept_after (at ((run two_shards kept_after.before).shards 0).applied applied_after 0 refl refl)
    (at (key_b ∷ []) key_b 0 refl refl) refl refl
    in
    not_there (newest_at (history_of two_shards write_after_the_answer 0) 0 (record { row = record { family = family_f; key = key_b }; name = name_x })) r.0 refl r.1
