-- Which envelopes a session ignores.
use Rattle.std.specs.Prelude.{◌≡◌, ℕ, Bool, false, ◌==◌, ◌&&◌}
use Rattle.logical_time.specs.Stamps.{TxnValue}
use Rattle.messages.specs.declared.body.Body.{Body}
use Rattle.messages.specs.declared.body.Body.TheVariants as body
use Rattle.messages.specs.declared.envelope.Envelope.{Envelope}
use Rattle.messages.specs.Topology.{TopologyValue}
use Rattle.messages.specs.Words.{is_same_txn}
use Rattle.messages.specs.Session.{SessionState, calm}
use Rattle.messages.specs.Rounds.{is_missing}
use Rattle.messages.specs.SessionEvents.{heard, is_left}
use Rattle.read_txn.specs.Taken.{is_awaited}
use Rattle.client.specs.declared.kept.SessionKept.{SessionKept}
use Rattle.client.specs.declared.current.Current.{Current}
use Rattle.client.specs.declared.current.Current.TheVariants as now

-- at every clock the machine's step at this envelope only moves the clock
abbrev pub IsIgnored : TopologyValue → ℕ → SessionState → Envelope → Type 0
IsIgnored top me a e = (n : ℕ) → heard top me n a e.from e.body ≡ calm n a

-- ## By what is kept

-- whether Done of this transaction is of the open operation
abbrev pub heeds_done : Current → SessionKept → TxnValue → Bool
heeds_done (now.Write coordinator) k t = is_same_txn t (record { session = k.node; number = k.count })
heeds_done now.Idle k t = false
heeds_done (now.First f) k t = false
heeds_done (now.Second s) k t = false
heeds_done (now.Move home m) k t = false

-- whether PartNow of this number is kept
abbrev pub heeds_now : Current → SessionKept → ℕ → ℕ → Bool
heeds_now (now.First f) k from number = (number == k.count) && is_missing f.asked f.heard from
heeds_now now.Idle k from number = false
heeds_now (now.Write coordinator) k from number = false
heeds_now (now.Second s) k from number = false
heeds_now (now.Move home m) k from number = false

-- whether PartAt of this number is kept, or ends the read
abbrev pub heeds_at : Current → SessionKept → ℕ → ℕ → Bool
heeds_at (now.Second s) k from number = (number == k.count) && is_awaited s from
heeds_at now.Idle k from number = false
heeds_at (now.Write coordinator) k from number = false
heeds_at (now.First f) k from number = false
heeds_at (now.Move home m) k from number = false

-- whether DepOk about this dependency, for this waiter, is counted
abbrev pub heeds_ok : Current → SessionKept → TxnValue → TxnValue → Bool
heeds_ok (now.Move home m) k dependency waiter =
    is_same_txn waiter (record { session = k.node; number = k.count }) && is_left dependency m.left
heeds_ok now.Idle k dependency waiter = false
heeds_ok (now.Write coordinator) k dependency waiter = false
heeds_ok (now.First f) k dependency waiter = false
heeds_ok (now.Second s) k dependency waiter = false

-- whether a body from a sender does more than move the clock
abbrev pub heeds : SessionKept → ℕ → Body → Bool
heeds k from (body.Done txn commit stamp) = heeds_done k.current k txn
heeds k from (body.PartNow number rows) = heeds_now k.current k from number
heeds k from (body.PartAt number time answer) = heeds_at k.current k from number
heeds k from (body.DepOk dependency waiter commit) = heeds_ok k.current k dependency waiter
heeds k from b = false
