use Rattle.std.proofs.Common.{◌∙◌, sym}
use Rattle.column_family.proofs.Apart.{apart_normal}
use Rattle.column_family.proofs.normalizing.are_seen_normal.Goals as goal

pub returns-then-changes-le-FEW : goal.returns-then-changes-le-FEW
returns-then-changes-le-FEW c = λ h. apart_normal c.args.changes.now (sym c.are_apart.ensures ∙ h)
