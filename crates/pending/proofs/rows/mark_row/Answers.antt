use Rattle.std.proofs.Common.{rules, ◌≡◌, ◌∙◌, sym, Some}
use Rattle.std.proofs.lemmas.Result.{on_ok_weaker, on_err_weaker}
use Rattle.pending.proofs.Maps.{each_mark, same_marks, found, not_found}
use Rattle.pending.proofs.rows.mark_row.Goals as goal

pub add_row-requires : goal.add_row-requires
add_row-requires c =
    let same : c.get_mut.follows.lender-at-none ≡ c.args.rows.now = search rules in
    rw same (not_found c.args.rows.now.entries c.args.row.now (search rules))

pub returns-in-Some-clause-ok : goal.returns-in-Some-clause-ok
returns-in-Some-clause-ok c =
    let h = c.get_mut.follows.holds c.mark.new.self in
    let f = found c.args.rows.now.entries c.args.row.now c.in-Some.marks.now (search rules) in
    on_ok_weaker c.mark.result (λ ok. each_mark c.args.rows.now.entries (c.get_mut.follows.lender c.mark.new.self).entries c.args.row.now c.mark.new.self c.args.txn (Some c.args.time) (h.3 (search rules)).0 (rw f ok)) c.mark.ensures.ok

pub returns-in-Some-clause-err : goal.returns-in-Some-clause-err
returns-in-Some-clause-err c =
    let h = c.get_mut.follows.holds c.mark.new.self in
    let f = found c.args.rows.now.entries c.args.row.now c.in-Some.marks.now (search rules) in
    on_err_weaker c.mark.result (λ e. same_marks c.args.rows.now.entries (c.get_mut.follows.lender c.mark.new.self).entries c.args.row.now c.mark.new.self (h.3 (search rules)).0 (e ∙ sym f)) c.mark.ensures.err
