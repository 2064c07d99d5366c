use Rattle.std.proofs.Common.{rules, ◌≡◌, None}
use Rattle.pending.proofs.Maps.{each_mark, none_to_clear, found, not_found}
use Rattle.pending.proofs.rows.clear_row.Goals as goal

pub returns-in-Some : goal.returns-in-Some
returns-in-Some c =
    let h = c.get_mut.follows.holds c.clear.new.self in
    let f = found c.args.rows.now.entries c.args.row.now c.in-Some.marks.now (search rules) in
    each_mark c.args.rows.now.entries (c.get_mut.follows.lender c.clear.new.self).entries c.args.row.now c.clear.new.self c.args.txn None (h.3 (search rules)).0 (rw f c.clear.ensures)

pub returns-in_default : goal.returns-in_default
returns-in_default c =
    let same : c.get_mut.follows.lender-at-none ≡ c.args.rows.now = search rules in
    rw same (none_to_clear c.args.rows.now.entries c.args.row.now c.args.txn (not_found c.args.rows.now.entries c.args.row.now (search rules)))
