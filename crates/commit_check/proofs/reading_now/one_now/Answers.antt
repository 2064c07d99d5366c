use Rattle.store.proofs.seen.Assembled.{if_ok}
use Rattle.commit_check.proofs.SameRows.{found_now}
use Rattle.commit_check.proofs.reading_now.one_now.Goals as goal

pub returns-clause-ok : goal.returns-clause-ok
returns-clause-ok c = λ a keeps marked once.
    if_ok c.found_now.result (λ row found. found_now c.args.store.now c.args.marks.now a c.args.clock c.args.read.now c.args.key.now row keeps marked once found) c.found_now.ensures.ok
