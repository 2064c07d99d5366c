use Rattle.std.proofs.Common.{◌∙◌, ap}
use Rattle.dependencies.specs.Moving.{none_left}
use Rattle.dependencies.proofs.Left.{is_none_missing}
use Rattle.dependencies.proofs.missing.Missing.is_empty.Goals as goal

pub returns : goal.returns
returns c =
    is_none_missing c.is_empty.result c.self.inside.txns c.self.inside.writers c.self.invariant c.is_empty.ensures.0 c.is_empty.ensures.1
    ∙ ap none_left c.self.view_is
