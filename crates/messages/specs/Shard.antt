-- What a shard ever kept. Its lists only grow, each at its end; beside them only its clock, its horizon and the reads
-- that wait change.
use Rattle.std.specs.Prelude.{ℕ, List, [], Option}
use Rattle.logical_time.specs.Stamps.{StampValue, TxnValue, WriterValue}
use Rattle.column_family.specs.declared.batch.Change.{Change}
use Rattle.slice.specs.declared.read.Read.{Read}
use Rattle.store.specs.declared.part.Applied.{Applied}
use Rattle.messages.specs.declared.envelope.Envelope.{Envelope}

-- as what a shard prepared a part: as the coordinator's own, as a cohort's where the write was submitted, or as a
-- cohort's where it was replicated
pub data Role : Type 0 where
  Own : Role
  Cohort : Role
  Replica : Role

-- a part that was prepared, at this time: it marks its rows with it until it is applied
pub record PreparedPart : Type 0 where
  pub txn : TxnValue
  pub rows : List Change
  pub coordinator : ℕ
  pub time : ℕ
  pub role : Role

-- a ballot that the coordinator holds; in another data centre than the write's own the stamp came with it
pub record BegunBallot : Type 0 where
  pub txn : TxnValue
  pub rows : List Change
  pub cohorts : List ℕ
  pub dependencies : List WriterValue
  pub stamp : Option StampValue

-- a vote, or a notice that a part is kept, of the shard with this node
pub record Vote : Type 0 where
  pub txn : TxnValue
  pub node : ℕ

-- what a coordinator decided, with its commit time in this data centre
pub record Decision : Type 0 where
  pub txn : TxnValue
  pub commit : ℕ
  pub stamp : StampValue

-- a replicated part that a cohort keeps
pub record KeptPart : Type 0 where
  pub txn : TxnValue
  pub rows : List Change
  pub stamp : StampValue
  pub coordinator : ℕ

-- a replicated ballot that its coordinator keeps until all notices and answers are there
pub record KeptBallot : Type 0 where
  pub txn : TxnValue
  pub rows : List Change
  pub stamp : StampValue
  pub cohorts : List ℕ
  pub dependencies : List WriterValue

-- a dependency of a waiting write is committed in this data centre
pub record Met : Type 0 where
  pub waiter : TxnValue
  pub dependency : TxnValue

-- who asked for a dependency before it was decided: a shard for a write, or a session for its move
pub record Asker : Type 0 where
  pub dependency : TxnValue
  pub waiter : TxnValue
  pub from : ℕ

-- a read at a time that waits for these transactions
pub record WaitingRead : Type 0 where
  pub session : ℕ
  pub number : ℕ
  pub time : ℕ
  pub read : Read
  pub left : List TxnValue

pub record ShardState : Type 0 where
  pub clock : ℕ
  -- the horizon of the collections
  pub low : ℕ
  pub prepared : List PreparedPart
  pub ballots : List BegunBallot
  -- votes for a transaction that wasn't known yet
  pub early : List Vote
  -- votes that were counted for a ballot
  pub votes : List Vote
  pub decided : List Decision
  -- in the order of application
  pub applied : List Applied
  pub kept_parts : List KeptPart
  pub kept_ballots : List KeptBallot
  pub notices : List Vote
  pub met : List Met
  pub askers : List Asker
  -- in the order of their arrival
  pub waiting : List WaitingRead

-- a shard before its first event
abbrev pub new_shard : ShardState
new_shard =
    record {
      clock = 0;
      low = 0;
      prepared = [];
      ballots = [];
      early = [];
      votes = [];
      decided = [];
      applied = [];
      kept_parts = [];
      kept_ballots = [];
      notices = [];
      met = [];
      askers = [];
      waiting = [];
    }

-- a shard after an event, and what the event sends, in order
pub record ShardStep : Type 0 where
  pub state : ShardState
  pub sends : List Envelope

-- the clock moves, and nothing else happens
abbrev pub quiet : ℕ → ShardState → ShardStep
quiet n a = record { state = record a { clock = n }; sends = [] }
