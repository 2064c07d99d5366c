use Rattle.std.proofs.Common.{rules, ◌≡◌, ◌∙◌, ap, length}
use Rattle.audit.specs.Misreads.{misreads_from}
use Rattle.audit.proofs.WrongReads.{counted}
use Rattle.audit.proofs.judging.misreads.Goals as goal

pub returns-clause-count : goal.returns-clause-count
returns-clause-count c =
    let told : c.in_ok-found.found.items ≡ misreads_from c.args.histories.now 0 c.args.reads.now = search rules in
    ap length told ∙ counted c.args.histories.now 0 c.args.reads.now
