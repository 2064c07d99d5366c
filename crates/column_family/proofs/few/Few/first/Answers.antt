use Rattle.std.proofs.Common.{◌∙◌, ap}
use Rattle.column_family.proofs.Heads.{head_eight}
use Rattle.column_family.specs.Heads.{head_of}
use Rattle.column_family.proofs.few.Few.first.Goals as goal

pub returns : goal.returns
returns c = c.from_be_bytes.ensures ∙ head_eight c.self.inside.bytes _ c.self.invariant.1 ∙ ap (λ l. head_of 8 l) c.self.view_is
