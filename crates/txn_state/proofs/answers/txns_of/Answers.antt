use Rattle.std.proofs.Common.{rules, map, refl}
use Rattle.std.specs.BTreeSet.{IsFromIterResult}
use Rattle.std.proofs.lemmas.Iterator.{YieldsList-from_slice, YieldsList-from_map}
use Rattle.std.proofs.lemmas.Iterator.Adapters.{fact_from_collect}
use Rattle.std.proofs.lemmas.Iterator.Consumers.{YieldsList-at}
use Rattle.logical_time.specs.Stamps.{WriterValue, txn_cmp}
use Rattle.txn_state.proofs.Txns.{known}
use Rattle.txn_state.proofs.answers.txns_of.Goals as goal

-- the set is made of the transactions
made : (c : goal.In_ok-txns) → IsFromIterResult txn_cmp (map (λ (w : WriterValue). w.txn) c.args.dependencies.now) c.in_ok-txns.txns
made c =
    let all = fact_from_collect (IsFromIterResult txn_cmp) c.collect.result c.collect.ensures.ran
    (YieldsList-from_map _ (λ (w : WriterValue). w.txn)
    (YieldsList-at c.map.ensures.source (YieldsList-from_slice c.args.dependencies.now (cc)))
    c.map.ensures.closure (λ x r q k. search rules)) in
    rw c.in_ok-txns.was at all

pub returns-clause-ok : goal.returns-clause-ok
returns-clause-ok c = λ t. known c.args.dependencies.now _ c.in_ok-txns.txns.keys refl (made c).0 t

pub returns-clause-ordered : goal.returns-clause-ordered
returns-clause-ordered c = (made c).1
