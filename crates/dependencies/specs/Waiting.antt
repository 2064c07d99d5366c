-- Those that asked for one dependency.
use Rattle.std.specs.Prelude.{ℕ, Bool, ◌&&◌, ◌==◌, if◌then◌else◌, List, [], ◌∷◌, ◌++◌}
use Rattle.std.specs.List.{list_any}
use Rattle.logical_time.specs.Stamps.{TxnValue}
use Rattle.messages.specs.declared.body.Body.TheVariants.{DepOk}
use Rattle.messages.specs.declared.envelope.Envelope.{Envelope}
use Rattle.messages.specs.Words.{is_same_txn, envelope}
use Rattle.dependencies.specs.declared.waiters.Waiting.{Waiting}

-- whether the same actor asked for the same operation already
abbrev pub is_among : Waiting → List Waiting → Bool
is_among one ws = list_any (λ w. is_same_txn w.waiter one.waiter && (w.from == one.from)) ws

abbrev pub with_waiting : Waiting → List Waiting → List Waiting
with_waiting one ws = if is_among one ws then ws else ws ++ one ∷ []

-- the dependency is committed at the time of the event
abbrev pub dep_ok : ℕ → ℕ → TxnValue → Waiting → Envelope
dep_ok me n t w = envelope me w.from n (DepOk t w.waiter n)
