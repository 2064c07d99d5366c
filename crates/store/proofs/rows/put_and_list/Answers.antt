use Rattle.std.proofs.Common.{◌∙◌, refl}
use Rattle.store.proofs.applied.Listed.{listed_range}
use Rattle.store.proofs.rows.put_and_list.Goals as goal

pub returns-clause-listed : goal.returns-clause-listed
returns-clause-listed c =
    listed_range c.args.crowded.now.rows c.add.new.self.rows c.args.rows.now.entries c.put_range.new.rows.entries c.args.row c.put_range.ensures.places
    (λ r other. c.put_range.ensures.put r ∙ rw other refl) c.add.ensures.listed
