use Rattle.std.proofs.Common.{rules}
use Rattle.version_gc.proofs.Collected.{kept_exactly}
use Rattle.version_gc.proofs.collection.collect.Goals as goal

pub returns-clause-exact : goal.returns-clause-exact
returns-clause-exact c = kept_exactly c.args.time c.args.chain.now.versions c.keep_from.new.self.versions c.keep_from.ensures.kept

pub returns-clause-kept : goal.returns-clause-kept
returns-clause-kept c = search rules
