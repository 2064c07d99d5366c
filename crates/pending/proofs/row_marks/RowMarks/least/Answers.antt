use Rattle.std.proofs.Common.{rules, ◌≡◌, ℕ, [], ◌∷◌, Option, Some, subst, sym}
use Rattle.pending.specs.Marks.{RowList, IsLeast, time_in}
use Rattle.pending.proofs.Times.{least_of_one, least_of_values}
use Rattle.pending.proofs.row_marks.RowMarks.least.Goals as goal

pub returns-in-One : goal.returns-in-One
returns-in-One c =
    let mark = c.in-One.mark in
    let is : (mark.txn, mark.time) ∷ [] ≡ c.args.self.now = search rules in
    subst (λ (es : RowList). IsLeast (time_in es) (Some mark.time)) is (least_of_one mark.txn mark.time)

pub returns-in-Many : goal.returns-in-Many
returns-in-Many c =
    let times = c.in-Many.times.entries in
    let is : times ≡ c.args.self.now = search rules in
    subst (λ (es : RowList). IsLeast (time_in es) c.least_time.result) is
    (subst (λ (o : Option ℕ). IsLeast (time_in times) o) (sym c.least_time.ensures.exact) (least_of_values times c.least_time.ensures.ordered))
