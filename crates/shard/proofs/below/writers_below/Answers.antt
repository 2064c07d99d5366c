use Rattle.std.proofs.Common.{rules, ◌≡◌, ◌∙◌, sym, ap, subst, map, filter_map, List}
use Rattle.std.proofs.lemmas.Result.{IfOk-weaker}
use Rattle.column_family.specs.declared.batch.Row.{Row}
use Rattle.logical_time.specs.Stamps.{TxnValue}
use Rattle.pending.specs.Marked.{AreBelow}
use Rattle.slice.specs.Rows.{row_of}
use Rattle.write_txn.specs.Ledger.{LedgerValue}
use Rattle.shard.specs.UnderWay.{writer_under_way}
use Rattle.shard.proofs.in_code.BelowTime.{writers_are_asked}
use Rattle.shard.proofs.below.writers_below.Goals as goal

pub returns-clause-ok : goal.returns-clause-ok
returns-clause-ok c = λ top me a r.
    let rows : c.deref.result.now ≡ map (row_of c.args.read.now) c.args.read.now.keys = search rules in
    let txns : c.deref-2.result.now ≡ c.in_ok-txns.txns.items = search rules in
    let below : AreBelow c.marks.result.now (map (row_of c.args.read.now) c.args.read.now.keys) c.args.time c.deref-2.result.now =
    subst (λ (ts : List TxnValue). AreBelow c.marks.result.now (map (row_of c.args.read.now) c.args.read.now.keys) c.args.time ts) (sym txns)
    (subst (λ (rs : List Row). AreBelow c.marks.result.now rs c.args.time c.in_ok-txns.txns.items) rows c.in_ok-txns.ensures.ok) in
    let asked = writers_are_asked top me a c.args.kept.now.transactions.ledger c.marks.result.now c.args.time c.args.read.now c.deref-2.result.now r.stands r.once c.marks.ensures below in
    IfOk-weaker c.writers_of.result _ _
    (λ ws is. is ∙ (ap (λ (l : LedgerValue). filter_map (writer_under_way l) c.deref-2.result.now) c.ledger.ensures ∙ asked))
    c.writers_of.ensures.ok
