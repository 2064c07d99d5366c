use Rattle.std.proofs.Common.{rules, ◌∙◌, sym}
use Rattle.logical_time.proofs.Counting.{counted_first, fewer_left}
use Rattle.logical_time.proofs.shards.AllShardsIterator.next.Goals as goal

pub returns-clause-steps : goal.returns-clause-steps
returns-clause-steps c = sym c.self.view_is ∙ counted_first c.self.inside.next c.self.inside.end (search rules)

pub returns-clause-goes : goal.returns-clause-goes
returns-clause-goes c = search (rules, fewer_left _ _ _ (returns-clause-steps c))
