-- Transactions that are the same.
use Rattle.std.proofs.Common.{◌≡◌, ◌∙◌, ap, true, arith}
use Rattle.std.proofs.lemmas.Bool.Decides.{nat_tests}
use Rattle.logical_time.specs.Stamps.{TxnValue}
use Rattle.messages.specs.Words.{is_same_txn}

same_session : (t u : TxnValue) → is_same_txn t u ≡ true → t.session ≡ u.session
same_session t u e = grind (arith, nat_tests)

same_number : (t u : TxnValue) → is_same_txn t u ≡ true → t.number ≡ u.number
same_number t u e = grind (arith, nat_tests)

pub same_txn : (t u : TxnValue) → is_same_txn t u ≡ true → t ≡ u
same_txn t u e = ap (λ s. record t { session = s }) (same_session t u e) ∙ ap (λ n. record u { number = n }) (same_number t u e)

pub same_itself : (t : TxnValue) → is_same_txn t t ≡ true
same_itself t = grind (arith, nat_tests)
