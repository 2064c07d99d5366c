-- What is kept of votes for transactions that aren't known.
use Rattle.std.proofs.Common.{◌≡◌, ◌∙◌, ap, sym, refl, ℕ, List, [], Option, Some}
use Rattle.std.specs.Prelude.{if◌then◌else◌, unwrap_or}
use Rattle.std.specs.Ordering.{is_eq}
use Rattle.std.specs.BTreeMap.{BTreeMap, get, Updates}
use Rattle.logical_time.specs.Stamps.{TxnValue, txn_cmp}
use Rattle.write_txn.specs.Voters.{voters_of}
use Rattle.write_txn.proofs.Txns.{by_txn}

-- after a transaction's voters are written as they were all are as they were
pub same_voters : (m n : BTreeMap TxnValue (List ℕ)) (t : TxnValue) (w : List ℕ) → Updates txn_cmp m n t (Some w) → get txn_cmp m t ≡ Some w → (u : TxnValue) → voters_of n.entries u ≡ voters_of m.entries u
same_voters m n t w updates was u =
    ap (λ (o : Option (List ℕ)). unwrap_or o []) (updates.0 u)
    ∙ by_txn {P = unwrap_or (if is_eq (txn_cmp t u) then Some w else get txn_cmp m u) [] ≡ voters_of m.entries u} t u
    (λ same equal. rw equal (ap (λ (o : Option (List ℕ)). unwrap_or o []) (sym was) ∙ ap (voters_of m.entries) same))
    (λ other. rw other refl)
