use Rattle.std.proofs.Common.{rules}
use Rattle.pending.proofs.ClearedRows.{all_cleared}
use Rattle.pending.proofs.rows.clear_txn.Goals as goal

pub returns : goal.returns
returns c = all_cleared _ c.args.txn _ (λ k v b w f' t. search rules) _ _ c.retain.ensures.filtered
