use Rattle.std.proofs.Common.{rules}
use Rattle.messages.proofs.CohortBytes.{first_and_rest, some_left, none_left, fewer_left}
use Rattle.messages.proofs.cohorts.CohortShardsIterator.next.Goals as goal

pub returns-in_err-shard-clause-steps : goal.returns-in_err-shard-clause-steps
returns-in_err-shard-clause-steps c =
    let none = none_left c.self.inside.left c.self.invariant c.in_err-shard.ensures in search (rules, none)

pub overflow_sub-self : goal.overflow_sub-self
overflow_sub-self c = some_left c.self.inside.left c.self.invariant c.in_ok-shard.ensures.0

pub returns-clause-steps : goal.returns-clause-steps
returns-clause-steps c =
    let is = c.in_ok-shard.ensures in
    search (rules, first_and_rest c.self.inside.left c.self.invariant (some_left c.self.inside.left c.self.invariant is.0))

pub returns-clause-goes : goal.returns-clause-goes
returns-clause-goes c = search (rules, fewer_left _ _ _ (returns-clause-steps c))
