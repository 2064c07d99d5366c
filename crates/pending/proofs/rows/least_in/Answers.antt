use Rattle.std.proofs.Common.{rules, sym, subst, refl}
use Rattle.pending.specs.Marks.{RowList, time_in, IsLeast}
use Rattle.pending.proofs.Maps.{found, not_found}
use Rattle.pending.proofs.rows.least_in.Goals as goal

pub returns-in-Some : goal.returns-in-Some
returns-in-Some c =
    let f = found c.args.rows.now.entries c.args.row.now c.in-Some.marks.now (search rules) in
    subst (λ (es : RowList). IsLeast (time_in es) c.least.result) (sym f) c.least.ensures

pub returns-in-None : goal.returns-in-None
returns-in-None c =
    let f = not_found c.args.rows.now.entries c.args.row.now (search rules) in
    λ t. rw f refl
