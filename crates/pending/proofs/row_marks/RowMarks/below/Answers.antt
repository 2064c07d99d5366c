use Rattle.std.proofs.Common.{rules, ◌≡◌, List, [], ◌∷◌, subst, sym}
use Rattle.logical_time.specs.Stamps.{TxnValue}
use Rattle.pending.specs.Marks.{RowList, IsBelow, time_in}
use Rattle.pending.proofs.Times.{below_of_one, below_of_values, none_below}
use Rattle.pending.proofs.row_marks.RowMarks.below.Goals as goal

pub returns-in-None-clause-ok : goal.returns-in-None-clause-ok
returns-in-None-clause-ok c =
    let is : [] ≡ c.args.self.now = search rules in
    subst (λ (es : RowList). IsBelow (time_in es) c.args.time c.new.result.items) is (subst (λ (ts : List TxnValue). IsBelow (time_in []) c.args.time ts) (sym c.new.ensures.items) (none_below c.args.time))

pub returns-in_ok-one_earlier-in-One-clause-ok : goal.returns-in_ok-one_earlier-in-One-clause-ok
returns-in_ok-one_earlier-in-One-clause-ok c =
    let mark = c.in-One.mark in
    let found = c.in_ok-one_earlier-in-One in
    let is : (mark.txn, mark.time) ∷ [] ≡ c.args.self.now = search rules in
    subst (λ (es : RowList). IsBelow (time_in es) c.args.time found.field-0.items) is
    (subst (λ (ts : List TxnValue). IsBelow (time_in ((mark.txn, mark.time) ∷ [])) c.args.time ts) (sym found.ensures) (below_of_one mark.txn mark.time c.args.time))

pub returns-in_ok-earlier-in-Many-clause-ok : goal.returns-in_ok-earlier-in-Many-clause-ok
returns-in_ok-earlier-in-Many-clause-ok c =
    let times = c.in-Many.times.entries in
    let found = c.in_ok-earlier-in-Many in
    let is : times ≡ c.args.self.now = search rules in
    subst (λ (es : RowList). IsBelow (time_in es) c.args.time found.field-0.items) is
    (subst (λ (ts : List TxnValue). IsBelow (time_in times) c.args.time ts) (sym found.ensures.exact) (below_of_values times c.args.time found.ensures.ordered))
