use Rattle.std.proofs.Common.{◌∙◌}
use Rattle.slice.proofs.Selected.{found_named}
use Rattle.slice.proofs.selecting.named.Goals as goal

pub returns-clause-ok : goal.returns-clause-ok
returns-clause-ok c = c.in_ok-among.ensures ∙ found_named c.in_ok-wanted.wanted.keys c.args.names.now c.args.live.now c.in_ok-wanted.ensures.ok
