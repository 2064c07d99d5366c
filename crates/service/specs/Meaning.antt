-- What replies mean: from the bytes of a connection to the meaning of each answer.
use Rattle.std.specs.Prelude.{◌≡◌, ℕ, List, Ok, Err, ⊤}
use Rattle.logical_time.specs.Stamps.{TxnValue}
use Rattle.column_family.specs.History.{History}
use Rattle.slice.specs.declared.read.Read.{Read}
use Rattle.slice.specs.declared.read.AnsweredRow.{AnsweredRow}
use Rattle.table.specs.Meaning.{meaning}
use Rattle.messages.specs.declared.op.Op.{Op}
use Rattle.messages.specs.declared.op.Op.TheVariants as op
use Rattle.messages.specs.declared.outcome.Outcome.{Outcome}
use Rattle.messages.specs.declared.outcome.Outcome.TheVariants as outcome
use Rattle.messages.specs.Topology.{TopologyValue}
use Rattle.messages.specs.Actors.{opening_home, home_before}
use Rattle.wire.specs.Replies.{Reply}
use Rattle.world.specs.declared.run_event.RunEvent.{RunEvent}
use Rattle.world.specs.declared.completed.Completed.{Completed}
use Rattle.world.specs.Run.{Run}
use Rattle.world.specs.Entries.{IsTold}
use Rattle.world.specs.Histories.{IsHistory}
use Rattle.world.specs.Before.{Past}
use Rattle.world.specs.Committed.{IsCommittedBy}
use Rattle.world.specs.Promises.{number_of}
use Rattle.world.specs.Journals.{ended_at}
use Rattle.service.specs.Port.{IsEndOf, IsAnswered, Asks}

-- A read's reply is the meaning of its request on the history of the data centre, at the effective time that it names.
pub record IsReadMeant (top : TopologyValue) (w : Run) (dc : ℕ) (o : Op) (time : ℕ) (answer : List AnsweredRow) : Type 0 where
  pub read : Read
  pub asked : o ≡ op.Read read
  pub meant : (h : History) → IsHistory top w dc h → answer ≡ meaning read h time

-- A move's reply names the data centre that the request asked for, and each write before the move is committed there, with a
-- commit time not above the floor that it names.
pub record IsMoveMeant (top : TopologyValue) (w : Run) (c : Completed) (o : Op) (dc floor : ℕ) : Type 0 where
  pub asked : o ≡ op.Move dc
  pub past : (u : TxnValue) → Past top w (number_of c) u → IsCommittedBy top w dc u floor

-- the data centre where a session submitted the operation of this number: where the moves that it ended before left it
abbrev pub home_in : TopologyValue → Run → ℕ → ℕ → ℕ
home_in top w session number = home_before (opening_home top session) (ended_at w session) number

-- What an outcome tells of the operation that ended with it, by the history of the data centre where it was submitted: a write's
-- is the commit time and the stamp of its own decision there and of its batch in that history; a read's is its meaning; a
-- move's is the data centre that it asked for, where its past is.
abbrev pub Tells : TopologyValue → Run → Completed → Op → Outcome → Type 0
Tells top w c o (outcome.Wrote commit stamp) = IsTold top w c commit stamp
Tells top w c o (outcome.Read time answer) = IsReadMeant top w c.home o time answer
Tells top w c o outcome.Collected = ⊤
Tells top w c o (outcome.Moved dc floor) = IsMoveMeant top w c o dc floor

-- An outcome is the end of this session's request in the run's transcript, at the data centre where it was submitted, and tells
-- of it: so all that is promised of entries holds of it.
pub record IsMeant (top : TopologyValue) (w : Run) (session number : ℕ) (o : Op) (result : Outcome) : Type 0 where
  pub entry : Completed
  pub ended : IsEndOf w session number entry
  pub home : entry.home ≡ home_in top w session number
  pub op_is : entry.op ≡ o
  pub outcome_is : entry.outcome ≡ result
  pub tells : Tells top w entry o result

-- the request is answered, and the answer means it
pub record IsAnsweredWell (top : TopologyValue) (session : ℕ) (left : Run) (before : List RunEvent) (o : Op) (result : Outcome) (after : List RunEvent) : Type 0 where
  pub answered : IsAnswered top session o before result after
  pub meant : IsMeant top left session answered.number o result

-- A step of a session's connection, where `left` is the run after the whole connection: the request is answered on the world,
-- and an outcome has its meaning in `left`; a refusal tells nothing.
abbrev pub Replies : TopologyValue → ℕ → Run → List RunEvent → Op → Reply → List RunEvent → Type 0
Replies top session left before o (Ok result) after = IsAnsweredWell top session left before o result after
Replies top session left before o (Err fault) after = Asks top session before o (Err fault) after
