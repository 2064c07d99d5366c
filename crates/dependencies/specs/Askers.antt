-- Who asked for a dependency that isn't decided, as it is kept.
use Rattle.std.specs.Prelude.{◌≡◌, if◌then◌else◌, List, [], ◌∷◌, ◌++◌, map, filter, unwrap_or, None}
use Rattle.std.specs.Ordering.{is_eq}
use Rattle.std.specs.Map.{lookup}
use Rattle.logical_time.specs.Stamps.{TxnValue, txn_cmp}
use Rattle.messages.specs.Words.{is_same_txn}
use Rattle.messages.specs.Shard.{ShardState, Asker}
use Rattle.messages.specs.Known.{decision_of, is_asker}
use Rattle.dependencies.specs.declared.waiters.Waiting.{Waiting}

-- those that asked, by the dependency
abbrev pub AskersValue : Type 0
AskersValue = List (TxnValue × List Waiting)

-- what waits for this dependency, in the order of first asking
abbrev pub waiting_for : AskersValue → TxnValue → List Waiting
waiting_for es t = unwrap_or (lookup (λ k. is_eq (txn_cmp t k)) es) []

abbrev pub asker_for : TxnValue → Waiting → Asker
asker_for t w = record { dependency = t; waiter = w.waiter; from = w.from }

-- those that asked for this dependency, in the order of first asking
abbrev pub askers_of : AskersValue → TxnValue → List Asker
askers_of es t = map (asker_for t) (waiting_for es t)

-- with this one at the end, unless it asked already
abbrev pub with_asker : Asker → List Asker → List Asker
with_asker k ks = if is_asker ks k.dependency k.waiter k.from then ks else ks ++ k ∷ []

-- of a shard's askers those of each transaction that isn't decided there are kept
abbrev pub KeepsAskers : AskersValue → ShardState → Type 0
KeepsAskers es a = (t : TxnValue) → decision_of t a ≡ None → askers_of es t ≡ filter (λ k. is_same_txn k.dependency t) a.askers
