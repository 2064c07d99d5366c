use Rattle.dependencies.proofs.Left.{all_missing}
use Rattle.dependencies.proofs.missing.Missing.new.Goals as goal

pub returns-clause-ok : goal.returns-clause-ok
returns-clause-ok c = all_missing c.in_ok-txns.txns c.args.writers (rw c.as_slice.ensures at c.in_ok-txns.ensures.ok)
