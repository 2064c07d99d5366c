-- Answers to the dependency checks of a write: each counts once.
use Rattle.std.specs.Prelude.{Bool, not, List, filter}
use Rattle.std.specs.List.{list_any}
use Rattle.std.specs.Ordering.{is_eq}
use Rattle.logical_time.specs.Stamps.{TxnValue, txn_cmp, WriterValue}

-- whether the answer for this transaction is one of these
abbrev pub is_unanswered : List TxnValue → TxnValue → Bool
is_unanswered missing t = list_any (λ u. is_eq (txn_cmp u t)) missing

-- whether the transaction is one of these dependencies
abbrev pub is_dependency : List WriterValue → TxnValue → Bool
is_dependency dependencies t = list_any (λ w. is_eq (txn_cmp w.txn t)) dependencies

-- after the answer for a transaction: it is no longer missing
abbrev pub answered : List TxnValue → TxnValue → List TxnValue
answered missing t = filter (λ u. not (is_eq (txn_cmp u t))) missing
