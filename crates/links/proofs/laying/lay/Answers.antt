use Rattle.std.proofs.Common.{rules}
use Rattle.links.proofs.LaidFrom.{ends_laid}
use Rattle.links.proofs.laying.lay.Goals as goal

pub returns-clause-laid : goal.returns-clause-laid
returns-clause-laid c =
    ends_laid c.add_incoming.result c.args.capacity c.args.from c.args.to c.in_ok-out.out.ring c.args.ends.now.items c.add_outgoing.new.ends.items c.add_incoming.new.ends.items
    (λ node. search rules) (λ node. c.in_ok-add_outgoing.ensures.incoming node) (λ node. c.add_incoming.ensures.outgoing node) (λ node. search rules)
