use Rattle.std.proofs.Common.{refl, rules}
use Rattle.links.proofs.Laid.{out_more, in_same}
use Rattle.links.proofs.laying.add_outgoing.Goals as goal

pub returns-clause-outgoing : goal.returns-clause-outgoing
returns-clause-outgoing c = out_more c.args.ends.now.items c.args.place c.index_mut.result.now _ c.args.link c.requires c.index_mut.ensures.value (search rules)

pub returns-clause-incoming : goal.returns-clause-incoming
returns-clause-incoming c = in_same c.args.ends.now.items c.args.place c.index_mut.result.now _ c.requires c.index_mut.ensures.value refl
