-- What an envelope makes of what a session keeps. Each definition takes the clock of the event first.
use Rattle.std.specs.Prelude.{ℕ, max, Bool, true, false, ◌==◌, List, [], ◌∷◌, map, Some}
use Rattle.logical_time.specs.Stamps.{StampValue, TxnValue, WriterValue}
use Rattle.messages.specs.declared.rows_now.RowNow.{RowNow}
use Rattle.messages.specs.declared.rows_at.AtTime.{AtTime}
use Rattle.messages.specs.declared.outcome.Outcome.{Outcome}
use Rattle.messages.specs.declared.outcome.Outcome.TheVariants as outcome
use Rattle.messages.specs.declared.body.Body.{Body}
use Rattle.messages.specs.declared.body.Body.TheVariants as body
use Rattle.messages.specs.declared.envelope.Envelope.{Envelope}
use Rattle.messages.specs.Words.{is_same_txn, envelope}
use Rattle.dependencies.specs.declared.moving.MoveTaken.{MoveTaken}
use Rattle.dependencies.specs.declared.moving.MoveTaken.TheVariants as in_move
use Rattle.dependencies.specs.Moving.{MoveValue}
use Rattle.dependencies.specs.MoveTaken.{move_taken}
use Rattle.read_txn.specs.declared.late.LateShard.{LateShard}
use Rattle.read_txn.specs.declared.first_round.FirstTaken.{FirstTaken}
use Rattle.read_txn.specs.declared.first_round.FirstTaken.TheVariants as in_first
use Rattle.read_txn.specs.declared.second_round.SecondTaken.{SecondTaken}
use Rattle.read_txn.specs.declared.second_round.SecondTaken.TheVariants as in_second
use Rattle.read_txn.specs.States.{First, Second, Completed, asked_again}
use Rattle.read_txn.specs.Taken.{first_taken, second_taken}
use Rattle.client.specs.declared.kept.SessionKept.{SessionKept}
use Rattle.client.specs.declared.current.Current.{Current}
use Rattle.client.specs.declared.current.Current.TheVariants as now
use Rattle.client.specs.Home.{HomeValue}

-- nothing happens, but that the clock moves
abbrev pub calmed : ℕ → SessionKept → SessionKept
calmed n k = record k { clock = n }

-- the open operation ends with this outcome
abbrev pub finished : ℕ → SessionKept → ℕ → List WriterValue → List WriterValue → Outcome → SessionKept
finished n k floor dependencies added o =
    record k {
      clock = n;
      floor = floor;
      dependencies = dependencies;
      added = added;
      current = now.Idle;
      untaken = Some (k.count, o);
    }

-- a read completes
abbrev pub completed : ℕ → SessionKept → Completed → SessionKept
completed n k c = finished n k c.effective k.dependencies c.writers (outcome.Read c.effective c.answer)

-- a move ends: this home holds with its floor, and the dependencies stay
abbrev pub moved : ℕ → SessionKept → HomeValue → ℕ → SessionKept
moved n k home floor = finished n (record k { home = home }) floor k.dependencies k.added (outcome.Moved home.dc floor)

-- ## Done

abbrev pub done_if : Bool → ℕ → SessionKept → ℕ → TxnValue → ℕ → StampValue → SessionKept
done_if true n k coordinator t commit stamp =
    finished n k (max k.floor commit) (record { txn = t; shard = coordinator } ∷ []) [] (outcome.Wrote commit stamp)
done_if false n k coordinator t commit stamp = calmed n k

abbrev pub done_in : Current → ℕ → SessionKept → TxnValue → ℕ → StampValue → SessionKept
done_in (now.Write coordinator) n k t commit stamp =
    done_if (is_same_txn t (record { session = k.node; number = k.count })) n k coordinator t commit stamp
done_in now.Idle n k t commit stamp = calmed n k
done_in (now.First f) n k t commit stamp = calmed n k
done_in (now.Second s) n k t commit stamp = calmed n k
done_in (now.Move home m) n k t commit stamp = calmed n k

-- ## PartAt

abbrev pub after_at : SecondTaken → ℕ → SessionKept → SessionKept
after_at (in_second.More s) n k = record k { clock = n; current = now.Second s }
after_at (in_second.Done c) n k = completed n k c
after_at in_second.Collected n k = finished n k k.floor k.dependencies k.added outcome.Collected

abbrev pub at_if : Bool → ℕ → SessionKept → Second → ℕ → AtTime → SessionKept
at_if true n k s from answer = after_at (second_taken s from answer) n k
at_if false n k s from answer = calmed n k

abbrev pub at_in : Current → ℕ → SessionKept → ℕ → ℕ → AtTime → SessionKept
at_in (now.Second s) n k from number answer = at_if (number == k.count) n k s from answer
at_in now.Idle n k from number answer = calmed n k
at_in (now.Write coordinator) n k from number answer = calmed n k
at_in (now.First f) n k from number answer = calmed n k
at_in (now.Move home m) n k from number answer = calmed n k

-- ## PartNow

abbrev pub after_now : FirstTaken → ℕ → SessionKept → SessionKept
after_now (in_first.More f) n k = record k { clock = n; current = now.First f }
after_now (in_first.Second s) n k = record k { clock = n; current = now.Second s }
after_now (in_first.Done c) n k = completed n k c

abbrev pub now_if : Bool → ℕ → SessionKept → First → ℕ → List RowNow → SessionKept
now_if true n k f from rows = after_now (first_taken f from rows) n k
now_if false n k f from rows = calmed n k

abbrev pub now_in : Current → ℕ → SessionKept → ℕ → ℕ → List RowNow → SessionKept
now_in (now.First f) n k from number rows = now_if (number == k.count) n k f from rows
now_in now.Idle n k from number rows = calmed n k
now_in (now.Write coordinator) n k from number rows = calmed n k
now_in (now.Second s) n k from number rows = calmed n k
now_in (now.Move home m) n k from number rows = calmed n k

-- ReadAt, to a shard with rows that aren't accepted
abbrev pub read_late : ℕ → SessionKept → Second → LateShard → Envelope
read_late n k s late =
    envelope k.node late.node n (body.ReadAt k.count s.time (record s.read { keys = late.keys }))

abbrev pub sent_now : FirstTaken → ℕ → SessionKept → List Envelope
sent_now (in_first.More f) n k = []
sent_now (in_first.Second s) n k = map (read_late n k s) (asked_again s.asked s.time s.first)
sent_now (in_first.Done c) n k = []

abbrev pub sent_if : Bool → ℕ → SessionKept → First → ℕ → List RowNow → List Envelope
sent_if true n k f from rows = sent_now (first_taken f from rows) n k
sent_if false n k f from rows = []

abbrev pub sent_in : Current → ℕ → SessionKept → ℕ → ℕ → List RowNow → List Envelope
sent_in (now.First f) n k from number rows = sent_if (number == k.count) n k f from rows
sent_in now.Idle n k from number rows = []
sent_in (now.Write coordinator) n k from number rows = []
sent_in (now.Second s) n k from number rows = []
sent_in (now.Move home m) n k from number rows = []

-- ## DepOk

abbrev pub after_ok : MoveTaken → ℕ → SessionKept → HomeValue → SessionKept
after_ok (in_move.More m) n k home = record k { clock = n; current = now.Move home m }
after_ok (in_move.Ended floor) n k home = moved n k home floor

abbrev pub ok_if : Bool → ℕ → SessionKept → HomeValue → MoveValue → TxnValue → ℕ → SessionKept
ok_if true n k home m dependency commit = after_ok (move_taken m dependency commit) n k home
ok_if false n k home m dependency commit = calmed n k

abbrev pub ok_in : Current → ℕ → SessionKept → TxnValue → TxnValue → ℕ → SessionKept
ok_in (now.Move home m) n k dependency waiter commit =
    ok_if (is_same_txn waiter (record { session = k.node; number = k.count })) n k home m dependency commit
ok_in now.Idle n k dependency waiter commit = calmed n k
ok_in (now.Write coordinator) n k dependency waiter commit = calmed n k
ok_in (now.First f) n k dependency waiter commit = calmed n k
ok_in (now.Second s) n k dependency waiter commit = calmed n k

-- ## Each body

abbrev pub heard_kept : ℕ → SessionKept → ℕ → Body → SessionKept
heard_kept n k from (body.Done txn commit stamp) = done_in k.current n k txn commit stamp
heard_kept n k from (body.PartNow number rows) = now_in k.current n k from number rows
heard_kept n k from (body.PartAt number time answer) = at_in k.current n k from number answer
heard_kept n k from (body.DepOk dependency waiter commit) = ok_in k.current n k dependency waiter commit
heard_kept n k from b = calmed n k

abbrev pub heard_sends : ℕ → SessionKept → ℕ → Body → List Envelope
heard_sends n k from (body.PartNow number rows) = sent_in k.current n k from number rows
heard_sends n k from b = []
