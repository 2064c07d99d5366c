use Rattle.site_ledger.proofs.Texts.{one_entry}
use Rattle.site_ledger.proofs.law.texts_are_of_one_entry.Goals as goal

pub returns : goal.returns
returns c = one_entry
