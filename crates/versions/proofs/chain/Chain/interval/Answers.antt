use Rattle.std.proofs.Common.{subst, sym, ◌≤◌, ℕ, Option, ◌^◌}
use Rattle.std.specs.Prelude.{IfSome}
use Rattle.versions.proofs.Intervals.{interval_is_ordered}
use Rattle.versions.proofs.chain.Chain.interval.Goals as goal

pub returns-clause-ordered : goal.returns-clause-ordered
returns-clause-ordered c = subst (λ (o : Option (ℕ × ℕ)). IfSome o (λ times. times.0 ≤ times.1)) (sym c.interval_at.ensures) (interval_is_ordered (2 ^ 48) _ c.args.place)
