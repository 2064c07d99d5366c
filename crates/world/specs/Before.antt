-- Causal order: which operations are before which, and the past of an operation (Eiger). Operations, reads as well as
-- writes, are named by their session and their number there.
use Rattle.std.specs.Prelude.{◌≡◌, ℕ, ◌<◌, Bool, true, false, List, [], ◌∷◌, Some, Contains, ◌⊎◌}
use Rattle.logical_time.specs.Stamps.{TxnValue}
use Rattle.column_family.specs.declared.batch.Change.{Change}
use Rattle.column_family.specs.History.{up_to}
use Rattle.slice.specs.declared.read.Read.{Read}
use Rattle.slice.specs.Rests.{RowRestsOn}
use Rattle.slice.specs.Rows.{row_of}
use Rattle.messages.specs.declared.op.Op.{Op}
use Rattle.messages.specs.declared.op.Op.TheVariants as op
use Rattle.messages.specs.declared.outcome.Outcome.{Outcome}
use Rattle.messages.specs.declared.outcome.Outcome.TheVariants as outcome
use Rattle.messages.specs.Topology.{TopologyValue}
use Rattle.messages.specs.Shard.{Decision}
use Rattle.world.specs.Run.{Run, Submission, Completed}
use Rattle.world.specs.Histories.{batch_submitted, decisions_in, history_of}

-- the session submitted the operation, and it was accepted
abbrev pub IsSubmitted : Run → TxnValue → Type 0
IsSubmitted w t =
    (s : Submission) × Contains w.submitted s × (record { session = s.session; number = s.number } ≡ t)

-- a write
abbrev pub IsWrite : Run → TxnValue → Type 0
IsWrite w t = (batch : List Change) × (batch_submitted w t ≡ Some batch)

-- whether this completes an operation: a write is committed, a read is answered, or the session moved. A read that ended
-- with Collected isn't completed
abbrev pub completes : Outcome → Bool
completes (outcome.Wrote commit stamp) = true
completes (outcome.Read time answer) = true
completes outcome.Collected = false
completes (outcome.Moved dc floor) = true

-- this is what came of the operation
abbrev pub IsEndOf : Run → Completed → TxnValue → Type 0
IsEndOf w c t = Contains w.transcript c × (record { session = c.node; number = c.number } ≡ t)

-- the operation is completed
abbrev pub IsCompleted : Run → TxnValue → Type 0
IsCompleted w t = (c : Completed) × IsEndOf w c t × (completes c.outcome ≡ true)

-- One session completed the first before it submitted the second. A session has one operation open at a time, so what
-- has the smaller number ended before
abbrev pub IsEarlier : Run → TxnValue → TxnValue → Type 0
IsEarlier w u v = IsCompleted w u × IsSubmitted w v × (u.session ≡ v.session) × (u.number < v.number)

-- A read with this effective time rests, in one of its rows, on the transaction: by the history of its home, of what is
-- committed there by that time
abbrev pub ReadRestsOn : TopologyValue → Run → ℕ → Read → ℕ → TxnValue → Type 0
ReadRestsOn top w home read time u =
    (d : Decision) × (key : List ℕ) × Contains (decisions_in top w home) d × (d.txn ≡ u) × Contains read.keys key
    × RowRestsOn (up_to time (history_of top w home)) (row_of read key) read.predicate d.stamp

-- the same of what ended, by what was submitted and what came of it: only answered reads rest on something
abbrev pub EndRestsOn : Op → Outcome → TopologyValue → Run → ℕ → TxnValue → Type 0
EndRestsOn (op.Read read) (outcome.Read time answer) top w home u = ReadRestsOn top w home read time u
EndRestsOn o end top w home u = ⊥

-- the operation is a completed read that rests on the transaction
abbrev pub RestsOn : TopologyValue → Run → TxnValue → TxnValue → Type 0
RestsOn top w v u = (c : Completed) × IsEndOf w c v × EndRestsOn c.op c.outcome top w c.home u

-- the first is before the second by one link: their session, or the read
abbrev pub IsJustBefore : TopologyValue → Run → TxnValue → TxnValue → Type 0
IsJustBefore top w u v = IsEarlier w u v ⊎ RestsOn top w v u

-- by a chain of links, over these operations between
abbrev pub IsBeforeOver : TopologyValue → Run → TxnValue → List TxnValue → TxnValue → Type 0
IsBeforeOver top w u [] v = IsJustBefore top w u v
IsBeforeOver top w u (x ∷ xs) v = IsJustBefore top w u x × IsBeforeOver top w x xs v

-- the first operation is before the second, by some chain
abbrev pub Before : TopologyValue → Run → TxnValue → TxnValue → Type 0
Before top w u v = (between : List TxnValue) × IsBeforeOver top w u between v

-- the past of an operation: the writes before it
abbrev pub Past : TopologyValue → Run → TxnValue → TxnValue → Type 0
Past top w v u = IsWrite w u × Before top w u v
