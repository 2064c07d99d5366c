use Rattle.std.proofs.Common.{rules, ◌≡◌, subst, sym, append-nil, true, false}
use Rattle.std.specs.Option.{option_copied}
use Rattle.store.specs.declared.gathering.Gathered.{Gathered}
use Rattle.store.specs.Gathering.{writers_gathered}
use Rattle.store.specs.Sight.{HaveSameWriters, is_covered, named}
use Rattle.store.proofs.seen.Gathered.{all_there}
use Rattle.store.proofs.seen.Gatherings.{one_gathered, on_ok}
use Rattle.store.proofs.gathering.Gathered.add.Goals as goal

pub returns-then-is_covered-clause-ok : goal.returns-then-is_covered-clause-ok
returns-then-is_covered-clause-ok c = λ left all.
    let d = option_copied c.args.deletion in
    let s = named c.args.seen.now in
    let g = c.args.self.now in
    let ws = writers_gathered g in
    let h : Gathered = record { columns = g.columns; first = g.first; more = g.more; evt = c.max-self.result } in
    let covered : is_covered d s.1 ≡ true = search rules in
    one_gathered d s left all g h
    (rw covered (sym (append-nil g.columns.items)))
    (rw covered (subst (HaveSameWriters ws) (sym (append-nil ws)) (all_there ws)))
    (search rules)

pub returns-clause-ok : goal.returns-clause-ok
returns-clause-ok c =
    let d = option_copied c.args.deletion in
    let s = named c.args.seen.now in
    let g = c.args.self.now in
    let h : Gathered = record { columns = c.add_column.new.columns; first = c.add_writer.new.first; more = c.add_writer.new.more; evt = c.max-self.result } in
    let bare : is_covered d s.1 ≡ false = search rules in
    on_ok c.add_column.result (λ columns. λ left all. one_gathered d s left all g h columns (rw bare c.in_ok-add_writer.ensures) (search rules)) c.add_column.ensures.ok
