-- The two rounds of a read, as contracts see them.
use Rattle.std.specs.Prelude.{ℕ, List, map}
use Rattle.logical_time.specs.Stamps.{WriterValue}
use Rattle.slice.specs.declared.read.Read.{Read}
use Rattle.slice.specs.declared.read.AnsweredRow.{AnsweredRow}
use Rattle.messages.specs.Session.{HeardNow, HeardAt}
use Rattle.messages.specs.Rounds.{late_nodes, late_keys}
use Rattle.read_txn.specs.declared.late.LateShard.{LateShard}

-- a first round: the read, the session's floor, the shards that are asked, as nodes, and the answers kept so far, in
-- the order of their coming
pub record First : Type 0 where
  pub read : Read
  pub floor : ℕ
  pub asked : List ℕ
  pub heard : List HeardNow

-- a second round: the read, its effective time, the shards that the first round asked, with its answers, and the answers
-- of the second kept so far
pub record Second : Type 0 where
  pub read : Read
  pub time : ℕ
  pub asked : List ℕ
  pub first : List HeardNow
  pub heard : List HeardAt

-- a complete read: its effective time, its answer, and the writers of the rows that it took, in their order
pub record Completed : Type 0 where
  pub effective : ℕ
  pub answer : List AnsweredRow
  pub writers : List WriterValue

-- what a shard is asked again: the keys of its rows that aren't accepted
abbrev pub late_shard : ℕ → List HeardNow → ℕ → LateShard
late_shard time heard node = record { node = node; keys = late_keys time heard node }

-- what a second round asks, in the order of the first round's shards
abbrev pub asked_again : List ℕ → ℕ → List HeardNow → List LateShard
asked_again asked time heard = map (late_shard time heard) (late_nodes asked time heard)
