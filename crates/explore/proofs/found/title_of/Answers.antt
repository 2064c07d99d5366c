use Rattle.std.proofs.Common.{rules, append_assoc}
use Rattle.explore.specs.Exploration.{title_text}
use Rattle.explore.proofs.found.title_of.Goals as goal

pub returns : goal.returns
unfolding title_text
returns c = simp append_assoc (search rules)
