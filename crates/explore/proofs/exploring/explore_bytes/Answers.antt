use Rattle.std.proofs.Common.{rules}
use Rattle.explore.proofs.exploring.explore_bytes.Goals as goal

pub returns-in-Ok-explored_text-clause-text : goal.returns-in-Ok-explored_text-clause-text
returns-in-Ok-explored_text-clause-text g c =
    let e = c.in-Ok-explored_text.ensures in
    (c.in_ok-script.script, e.0, search rules, e.1, e.2)
