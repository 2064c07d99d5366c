use Rattle.version_gc.proofs.RowDeeds.{row_collections_unseen}
use Rattle.version_gc.proofs.law.collections_of_rows_are_not_seen.Goals as goal

pub returns : goal.returns
returns c = row_collections_unseen
