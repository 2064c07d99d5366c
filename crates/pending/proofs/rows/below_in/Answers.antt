use Rattle.std.proofs.Common.{rules, sym, subst, IfOk, [], List}
use Rattle.logical_time.specs.Stamps.{TxnValue}
use Rattle.pending.specs.Marks.{RowList, time_in, IsBelow}
use Rattle.pending.proofs.Maps.{found, not_found}
use Rattle.pending.proofs.Times.{none_below}
use Rattle.pending.proofs.rows.below_in.Goals as goal

pub returns-in-Some-clause-ok : goal.returns-in-Some-clause-ok
returns-in-Some-clause-ok c =
    let f = found c.args.rows.now.entries c.args.row.now c.in-Some.marks.now (search rules) in
    subst (λ (es : RowList). IfOk c.below.result (λ txns. IsBelow (time_in es) c.args.time txns.items)) (sym f) c.below.ensures.ok

pub returns-in-None-clause-ok : goal.returns-in-None-clause-ok
returns-in-None-clause-ok c =
    let f = not_found c.args.rows.now.entries c.args.row.now (search rules) in
    subst (λ (es : RowList). IsBelow (time_in es) c.args.time c.new.result.items) (sym f)
    (subst (λ (ts : List TxnValue). IsBelow (time_in []) c.args.time ts) (sym c.new.ensures.items) (none_below c.args.time))
