-- Nodes that voted for transactions, or gave notice of them, before these were known.
use Rattle.std.specs.Prelude.{ℕ, List, [], unwrap_or}
use Rattle.std.specs.Ordering.{is_eq}
use Rattle.std.specs.Map.{lookup}
use Rattle.logical_time.specs.Stamps.{TxnValue, txn_cmp}

-- by transaction, each with its nodes in the order in which they came
abbrev pub VoterList : Type 0
VoterList = List (TxnValue × List ℕ)

-- the nodes that voted for this transaction
abbrev pub voters_of : VoterList → TxnValue → List ℕ
voters_of es t = unwrap_or (lookup (λ k. is_eq (txn_cmp t k)) es) []
