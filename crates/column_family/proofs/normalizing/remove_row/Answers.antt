use Rattle.std.proofs.Common.{◌∙◌, refl}
use Rattle.std.proofs.lemmas.Result.{on_ok_weaker}
use Rattle.column_family.proofs.Removing.{row_left}
use Rattle.column_family.proofs.normalizing.remove_row.Goals as goal

pub returns : goal.returns
returns c = on_ok_weaker c.remove_between.result (λ kept. kept ∙ row_left c.args.row _ _ refl refl c.args.kept.now.entries) c.remove_between.ensures
