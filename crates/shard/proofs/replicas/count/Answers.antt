use Rattle.std.proofs.Common.{rules, ◌≡◌, subst}
use Rattle.std.specs.Prelude.{OnErr}
use Rattle.write_txn.specs.Transactions.{TransactionsValue}
use Rattle.shard.specs.Effects.{IsSpared}
use Rattle.shard.proofs.in_code.CountsEarly.{counts_early}
use Rattle.shard.proofs.replicas.count.Goals as goal

pub returns-then-not-count_early-clause-step : goal.returns-then-not-count_early-clause-step
returns-then-not-count_early-clause-step c = λ top me a r apart.
    counts_early c.args.missing top me c.args.clock c.args.txn c.args.kept.now c.count_early.new.self a c.args.outbox.now.sent r c.requires apart c.count_early.ensures.store c.count_early.ensures.early
    (search rules) (c.count_early.ensures.counted (search rules))

pub returns-clause-same : goal.returns-clause-same
returns-clause-same c =
    let same : c.count_early.new.self ≡ c.args.kept.now.transactions = c.count_early.ensures.same (search rules) in
    subst (λ (ts : TransactionsValue). OnErr c.count_last.result (IsSpared (record c.args.kept.now { transactions = ts }) c.count_last.new.kept)) same c.count_last.ensures.same
