use Rattle.std.proofs.Common.{rules, of_calls, ◌≡◌}
use Rattle.std.specs.Ordering.{is_lt}
use Rattle.std.proofs.lemmas.Cmp.{nat_list_cmp_total}
use Rattle.std.proofs.lemmas.Fn.{always_returns_same}
use Rattle.std.proofs.lemmas.List.Sorted.{ranks_by}
use Rattle.versions.specs.Sweeps.{start_at, is_before}
use Rattle.versions.proofs.sweep_steps.sort_by_start.Goals as goal

pub returns-clause-sorted : goal.returns-clause-sorted
returns-clause-sorted c =
    c.sort_unstable_by.ensures.sorted (is_before c.args.ranges.now) (ranks_by nat_list_cmp_total (start_at c.args.ranges.now))
    (always_returns_same _ (λ a r. is_lt r ≡ is_before c.args.ranges.now a.0.now a.1.0.now) _ (λ a r f k. search (rules, of_calls)))
