use Rattle.std.proofs.Common.{rules, ◌≡◌, true}
use Rattle.std.specs.List.{list_all}
use Rattle.std.specs.Option.{option_copied}
use Rattle.store.specs.Sight.{has_no_other, named, uncovered_writer}
use Rattle.store.proofs.newest.OneWriter.{one_writer}
use Rattle.store.proofs.reading.only_writer.Goals as goal

pub returns-then-have_no_other : goal.returns-then-have_no_other
returns-then-have_no_other c =
    let d = option_copied c.args.deletion in
    let alone : list_all (λ s. has_no_other c.in_ok-writer.writer (uncovered_writer d (named s))) c.args.seen.now ≡ true = search rules in
    one_writer (λ s. uncovered_writer d (named s)) d c.in_ok-writer.writer c.args.seen.now
    c.in_ok-writer.ensures.rests (search rules) alone
