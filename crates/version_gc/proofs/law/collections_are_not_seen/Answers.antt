use Rattle.version_gc.proofs.Deeds.{collections_unseen}
use Rattle.version_gc.proofs.law.collections_are_not_seen.Goals as goal

pub returns : goal.returns
returns c = collections_unseen
