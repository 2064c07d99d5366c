-- What keeps causal order in every run: what a session's dependencies cover, and the times of its operations.
use Rattle.std.specs.Prelude.{◌≡◌, ℕ, ◌<◌, ◌≤◌, false, List, flat_map, [], ◌∷◌, Contains}
use Rattle.logical_time.specs.Stamps.{TxnValue, WriterValue}
use Rattle.messages.specs.declared.rows_at.RowAt.{RowAt}
use Rattle.messages.specs.declared.op.Op.{Op}
use Rattle.messages.specs.declared.op.Op.TheVariants as op
use Rattle.messages.specs.declared.outcome.Outcome.{Outcome}
use Rattle.messages.specs.declared.outcome.Outcome.TheVariants as outcome
use Rattle.messages.specs.Topology.{TopologyValue}
use Rattle.messages.specs.Session.{is_idle}
use Rattle.world.specs.Run.{Run, Submission, Completed}
use Rattle.world.specs.Committed.{time_of, IsNotBelow}
use Rattle.world.specs.Promises.{Fits}
use Rattle.world.proofs.safety.Facts.{txn_of}
use Rattle.world.proofs.safety.Invariant.{AnsweredFrom}

abbrev pub txn_ended : Completed → TxnValue
txn_ended c = record { session = c.node; number = c.number }

-- these dependencies name the transaction, or one of them depends on it
pub data Covered (w : Run) (t : TxnValue) : List WriterValue → Type 0 where
  direct : (deps : List WriterValue) (k : WriterValue) → Contains deps k → k.txn ≡ t → Covered w t deps
  via : (deps : List WriterValue) (k : WriterValue) (b : Submission) → Contains deps k → Contains w.submitted b → txn_of b ≡ k.txn → Covered w t b.dependencies → Covered w t deps

-- whatever the session submits after its operation of this number depends on the transaction, and so will the next
pub record LaterCovered (w : Run) (session m : ℕ) (t : TxnValue) : Type 0 where
  pub submitted : (b : Submission) → Contains w.submitted b → b.session ≡ session → m < b.number → Covered w t b.dependencies
  pub next : Covered w t (w.sessions session).dependencies

-- the transactions that came with these rows
abbrev pub writers_in : List RowAt → List WriterValue
writers_in rows = flat_map (λ r. r.writers) rows

-- what a completed operation leaves to later ones
abbrev pub EndCausal : Op → Outcome → TopologyValue → Run → Completed → Type 0
EndCausal (op.Batch batch) (outcome.Wrote commit stamp) top w c = LaterCovered w c.node c.number (txn_ended c)
EndCausal (op.Read read) (outcome.Read time answer) top w c =
    (rows : List RowAt) × AnsweredFrom top w c.home read time rows
    × ((k : WriterValue) → Contains (writers_in rows) k → LaterCovered w c.node c.number k.txn)
EndCausal o r top w c = Unit {0}

-- no two of these are of one operation
abbrev pub EndedOnce : List Completed → Type 0
EndedOnce [] = Unit {0}
EndedOnce (c ∷ cs) = ((e : Completed) → Contains cs e → txn_ended e ≡ txn_ended c → ⊥) × EndedOnce cs

-- no two of these have one number
abbrev pub NamedOnce : List Submission → Type 0
NamedOnce [] = Unit {0}
NamedOnce (b ∷ bs) = ((c : Submission) → Contains bs c → txn_of c ≡ txn_of b → ⊥) × NamedOnce bs

-- all that its session ended from the one entry to the other, it ended in the home of the first
abbrev pub HomeBetween : Run → Completed → Completed → Type 0
HomeBetween w c e = (d : Completed) → Contains w.transcript d → d.node ≡ c.node → c.number ≤ d.number → d.number ≤ e.number → d.home ≡ c.home

-- its session is still in the home of the entry, and ended in it all since
abbrev pub HomeSince : Run → Completed → Type 0
HomeSince w c = ((w.sessions c.node).home ≡ c.home) × ((d : Completed) → Contains w.transcript d → d.node ≡ c.node → c.number ≤ d.number → d.home ≡ c.home)

pub record Causal (top : TopologyValue) (w : Run) : Type 0 where
  pub fits : (c : Completed) → Contains w.transcript c → Fits c.op c.outcome
  pub ended : (c : Completed) → Contains w.transcript c → EndCausal c.op c.outcome top w c
  -- the floor is above all times so far in this home
  pub floor : (c : Completed) → Contains w.transcript c → HomeSince w c → time_of c.outcome ≤ (w.sessions c.node).floor
  -- a session's times never fall while it stays in one home
  pub ordered : (c e : Completed) → Contains w.transcript c → Contains w.transcript e → c.node ≡ e.node → c.number < e.number → HomeBetween w c e
      → IsNotBelow e.outcome (time_of c.outcome)
  -- what ended is no longer open
  pub number : (c : Completed) → Contains w.transcript c → c.number ≤ (w.sessions c.node).count
  pub closed : (c : Completed) → Contains w.transcript c → is_idle (w.sessions c.node).current ≡ false → c.number < (w.sessions c.node).count
  -- the clock is above all times so far
  pub early : (c : Completed) → Contains w.transcript c → time_of c.outcome ≤ (w.sessions c.node).clock
  -- what is submitted later has a greater time
  pub begun : (b : Submission) (c : Completed) → Contains w.submitted b → Contains w.transcript c → c.node ≡ b.session → c.number < b.number → time_of c.outcome ≤ b.time
  -- each operation ends once
  pub once : EndedOnce w.transcript
  pub named : NamedOnce w.submitted
  pub one : (c e : Completed) → Contains w.transcript c → Contains w.transcript e → txn_ended c ≡ txn_ended e → c ≡ e
