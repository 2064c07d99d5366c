use Rattle.durable.proofs.Logs.{kept_first}
use Rattle.durable.proofs.law.kept_entries_come_back.Goals as goal

pub returns : goal.returns
returns c = kept_first c.texts_are_of_one_entry.ensures
