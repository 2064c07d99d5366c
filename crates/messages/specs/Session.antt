-- What a session keeps.
use Rattle.std.specs.Prelude.{ℕ, Bool, true, false, List, [], Option, Some, None}
use Rattle.logical_time.specs.Stamps.{WriterValue}
use Rattle.slice.specs.declared.read.Read.{Read}
use Rattle.messages.specs.declared.rows_now.RowNow.{RowNow}
use Rattle.messages.specs.declared.rows_at.RowAt.{RowAt}
use Rattle.messages.specs.declared.outcome.Outcome.{Outcome}
use Rattle.messages.specs.declared.outcome.Outcome.TheVariants as outcome
use Rattle.messages.specs.declared.envelope.Envelope.{Envelope}

-- the first answer of a shard in the first round of a read
pub record HeardNow : Type 0 where
  pub from : ℕ
  pub rows : List RowNow

-- the first answer of a shard in the second round of a read
pub record HeardAt : Type 0 where
  pub from : ℕ
  pub rows : List RowAt

-- the open operation: none, a write with its coordinator, a read in its first or its second round, with what was heard so
-- far, in the order of its coming, or a move: where to, the dependencies whose answers are missing, and the greatest commit
-- time that was told so far, 0 before the first. Its number is the count of accepted operations
pub data Open : Type 0 where
  Idle : Open
  Writing : (coordinator : ℕ) → Open
  FirstRound : (read : Read) (heard : List HeardNow) → Open
  SecondRound : (read : Read) (time : ℕ) (first : List HeardNow) (heard : List HeardAt) → Open
  Moving : (dc : ℕ) (left : List WriterValue) (floor : ℕ) → Open

-- what came of the operation of this number
pub record Finished : Type 0 where
  pub number : ℕ
  pub outcome : Outcome

pub record SessionState : Type 0 where
  pub clock : ℕ
  -- how many operations were accepted
  pub count : ℕ
  -- the data centre where it is now
  pub home : ℕ
  -- the greatest commit or effective time, in this data centre, of what it depended on when it came here and of the operations
  -- that it completed since
  pub floor : ℕ
  -- what the next write depends on, in order
  pub dependencies : List WriterValue
  pub current : Open
  -- the last outcome, until it is taken or the next operation is accepted
  pub untaken : Option Finished

-- a session before its first event
abbrev pub new_session : ℕ → SessionState
new_session home =
    record {
      clock = 0;
      count = 0;
      home = home;
      floor = 0;
      dependencies = [];
      current = Idle;
      untaken = None;
    }

-- a session after an event, and what the event sends, in order
pub record SessionStep : Type 0 where
  pub state : SessionState
  pub sends : List Envelope

-- the clock moves, and nothing else happens
abbrev pub calm : ℕ → SessionState → SessionStep
calm n a = record { state = record a { clock = n }; sends = [] }

abbrev pub is_idle : Open → Bool
is_idle Idle = true
is_idle (Writing coordinator) = false
is_idle (FirstRound read heard) = false
is_idle (SecondRound read time first heard) = false
is_idle (Moving dc left floor) = false

-- ## The end of an operation

-- the open operation ends with this outcome, at this floor and with these dependencies
abbrev pub ended : ℕ → SessionState → ℕ → List WriterValue → Outcome → SessionStep
ended n a floor dependencies o =
    record {
      state =
          record a {
            clock = n;
            floor = floor;
            dependencies = dependencies;
            current = Idle;
            untaken = Some (record { number = a.count; outcome = o });
          };
      sends = [];
    }

-- a move ends: the new home holds with its floor, and the dependencies stay
abbrev pub moved : ℕ → SessionState → ℕ → ℕ → SessionStep
moved n a dc floor = ended n (record a { home = dc }) floor a.dependencies (outcome.Moved dc floor)
