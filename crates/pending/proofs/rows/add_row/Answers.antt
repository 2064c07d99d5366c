use Rattle.std.proofs.Common.{rules, ◌≡◌, ◌∙◌, ap, subst, Some}
use Rattle.std.specs.Prelude.{if◌then◌else◌}
use Rattle.std.specs.Ordering.{is_eq}
use Rattle.logical_time.specs.Stamps.{TxnValue, txn_cmp}
use Rattle.pending.specs.Marks.{RowList, time_in, time_at, is_same_mark}
use Rattle.column_family.specs.declared.batch.Row.{Row}
use Rattle.pending.proofs.Maps.{each_mark}
use Rattle.pending.proofs.rows.add_row.Goals as goal

pub returns-clause-ok : goal.returns-clause-ok
returns-clause-ok c =
    let f = c.requires in
    let same : c.in_ok-clone.field-0 ≡ c.args.row.now = search rules in
    let written : (t : TxnValue) → time_in c.mark.new.self t ≡ (if is_eq (txn_cmp c.args.txn t) then Some c.args.time else time_in c.new-marks.result t) = c.in_ok-mark.ensures.ok in
    subst (λ k. (r : Row) (t : TxnValue) → time_at c.insert.new.self.entries r t ≡ (if is_same_mark k c.args.txn r t then Some c.args.time else time_at c.args.rows.now.entries r t)) same
    (each_mark c.args.rows.now.entries c.insert.new.self.entries c.in_ok-clone.field-0 c.mark.new.self c.args.txn (Some c.args.time) c.in_ok-insert.ensures.updates.0 (rw (same, f) (λ t. written t ∙ ap (λ (x : RowList). if is_eq (txn_cmp c.args.txn t) then Some c.args.time else time_in x t) c.new-marks.ensures)))
