use Rattle.std.proofs.Common.{rules}
use Rattle.audit.specs.Laid.{IsAppliedIn}
use Rattle.audit.proofs.Stamps.{laid_in}
use Rattle.audit.proofs.laid.lay_out.Goals as goal

pub returns-clause-ok : goal.returns-clause-ok
returns-clause-ok c =
    let applied : IsAppliedIn c.in_ok-store.store c.in_ok-sorted.sorted.items = search rules in
    laid_in c.in_ok-store.store c.args.entries.now c.in_ok-sorted.sorted.items c.in_ok-sorted.ensures.ok applied
